-- What became of bytes that were to be sent.
use Rattle.std.specs.Prelude.{ℕ, ◌<◌, List, length, take, Option, Result, MatchResult}
use Rattle.std.specs.Io.KnownBytes.{Appends}

-- all of the bytes were sent, or after an error a proper prefix of them
abbrev pub Sends : {T E : Type 0} → Option (List ℕ) → Option (List ℕ) → List ℕ → Result T E → Type 0
Sends old new bytes result =
    MatchResult result (λ _. Appends old new bytes) (λ _. (n : ℕ) × (n < length bytes)
    × Appends old new (take n bytes))
