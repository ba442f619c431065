-- When an object in memory is to fail, and how many bytes one of its calls moves.
use Rattle.std.specs.Prelude.{ℕ, min, max, Bool, nat_eq, List, [], Option, None, Some}
use Rattle.std.specs.Prelude.{if◌then◌else◌}
use Rattle.std.specs.List.{list_any}
use Rattle.fedi_outside.specs.Causes.{next_count}

-- which calls fail, and what was counted so far
pub record Plan : Type 0 where
  pub failing : List ℕ  -- the numbers of the calls that fail, counted from 0
  pub calls : ℕ  -- how many calls there were
  pub faults : ℕ  -- how many of them failed

-- no call fails, and none was counted
abbrev pub no_faults : Plan
no_faults = record { failing = []; calls = 0; faults = 0 }

-- whether the next call is to fail
abbrev pub is_to_fail : Plan → Bool
is_to_fail p = list_any (λ n. nat_eq n p.calls) p.failing

-- after one more call, which is counted, and its fault too if it is to fail
abbrev pub after_call : Plan → Plan
after_call p = record p {
  calls = next_count p.calls;
  faults = if is_to_fail p then next_count p.faults else p.faults;
}

-- how many bytes one call moves if there is room for this many: a limit of 0 counts as 1
abbrev pub moved : Option ℕ → ℕ → ℕ
moved None room = room
moved (Some limit) room = min (max limit 1) room
