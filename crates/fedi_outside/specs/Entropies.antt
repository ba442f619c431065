-- What a fill does to the bytes to come, and an entropy in memory, as its callers see it.
use Rattle.std.specs.Prelude.{ℕ, List, Option, Result, MatchResult}
use Rattle.std.specs.Io.KnownBytes.{Consumes, Keeps}
use Rattle.fedi_outside.specs.Plans.{Plan}

-- the bytes to come, if reported, began with these, which were taken; a failed fill took none
abbrev pub FillConsumes : {T E : Type 0} → Option (List ℕ) → Option (List ℕ) → Result T E
    → List ℕ → Type 0
FillConsumes before after result filled =
    MatchResult result (λ _. Consumes before after filled) (λ _. Keeps before after)

-- what an entropy in memory is to give, and which calls fail
pub record MemoryEntropyState : Type 0 where
  pub next : List ℕ  -- the bytes to come
  pub plan : Plan
