-- A source in memory, as its callers see it.
use Rattle.std.specs.Prelude.{ℕ, min, List, length, slice_get}
use Rattle.fedi_outside.specs.Plans.{Plan, moved}

-- what a source in memory is to give, and which reads fail
pub record MemorySourceState : Type 0 where
  pub left : List ℕ  -- the bytes to come
  pub pieces : List ℕ  -- how many bytes the read with this number gives at most
  pub plan : Plan

-- how many bytes the next read gives if there is this much room
abbrev pub given : MemorySourceState → ℕ → ℕ
given s room = min (moved (slice_get s.pieces s.plan.calls) room) (length s.left)
