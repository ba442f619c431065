-- No answer and no reply names a hidden recipient (ActivityPub, section 6).
use Rattle.std.specs.Prelude.{◌≡◌, ◌⊎◌, ℕ, Bool, true, List, []}
use Rattle.serde_json.specs.Data.{Data}
use Rattle.serde_json.specs.Written.{compact_text}
use Rattle.fedi_objects.specs.Forms.{is_clean}
use Rattle.fedi_model.specs.AnswerKinds.{Answer, Refuse, Misshape, Disallow, Document, Profile}
use Rattle.fedi_model.specs.AnswerKinds.{Tombstone, Created, Accepted}

-- in the answer, no member at any depth is named `bto` or `bcc`
abbrev pub is_clean_answer : Answer → Bool
is_clean_answer (Refuse r) = true
is_clean_answer (Misshape fault) = true
is_clean_answer (Disallow allow) = true
is_clean_answer (Document d) = is_clean d
is_clean_answer (Profile d) = is_clean d
is_clean_answer (Tombstone d) = is_clean d
is_clean_answer (Created id) = true
is_clean_answer Accepted = true

-- there is no body, or it is the JSON of a value in which no member at any depth is named `bto` or
-- `bcc`
abbrev pub IsCleanBody : List ℕ → Type 0
IsCleanBody body = (body ≡ []) ⊎ ((d : Data) × (is_clean d ≡ true) × (body ≡ compact_text d))
