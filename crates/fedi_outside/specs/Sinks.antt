-- A sink in memory, as its callers see it.
use Rattle.std.specs.Prelude.{ℕ, ◌≡◌, ◌+◌, ◌≤◌, true, List, length, not, Option, Result, IsErr}
use Rattle.std.specs.Prelude.{is_ok}
use Rattle.fedi_outside.specs.Plans.{Plan, is_to_fail, moved}

-- what a sink in memory has taken, and which writes fail
pub record MemorySinkState : Type 0 where
  pub sent : List ℕ  -- the bytes so far
  pub capacity : ℕ  -- how many bytes there is room for in all
  pub limit : Option ℕ  -- how many bytes one write takes at most
  pub plan : Plan

-- a write of this many bytes fails if it is planned to; otherwise it fails only for lack of room
pub record FailsByPlan {T E : Type 0} (before : MemorySinkState) (count : ℕ)
    (result : Result T E) : Type 0 where
  pub planned : is_to_fail before.plan ≡ true → IsErr result
  pub has_room : length before.sent + moved before.limit count ≤ before.capacity
      → is_ok result ≡ not (is_to_fail before.plan)
