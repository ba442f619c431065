-- What the adapters give from the outside.
use Rattle.std.specs.Prelude.{ℕ, ◌/◌, List, Option, Result, Ok, Err}
use Rattle.std.specs.Io.KnownBytes.{Consumes}
use Rattle.std.specs.Time.{system_time_nanos}
use Rattle.std.specs.declared.io.Error.{Error}
use Rattle.std.specs.declared.time.SystemTime.{SystemTime}

-- these bytes are the next ones of some file, as far as its reader reports them, and the reader is
-- then past them
abbrev pub IsReadOf : {F : Type 0} → (F → Option (List ℕ)) → List ℕ → Type 0
IsReadOf {F} remaining bytes =
    (file : F) × (later : F) × Consumes (remaining file) (remaining later) bytes

-- the whole seconds from the beginning of 1970 to the time that the machine shows, or 0
abbrev pub seconds_shown : Result SystemTime Error → ℕ
seconds_shown (Ok time) = system_time_nanos time / 1_000_000_000
seconds_shown (Err error) = 0
