-- What a body in JSON means (RFC 8259; RFC 3629 for its text).
use Rattle.std.specs.Prelude.{◌≡◌, ℕ, List, Some, IsUtf8}
use Rattle.serde_json.specs.Data.{Data}
use Rattle.serde_json.specs.Read.{read}

-- The bytes are a text in UTF-8, and the text is JSON for this value, nested at most 127 levels
-- deep. If a key is repeated, the last value counts.
abbrev pub IsBodyOf : List ℕ → Data → Type 0
IsBodyOf bytes d = IsUtf8 bytes × (read bytes ≡ Some d)
