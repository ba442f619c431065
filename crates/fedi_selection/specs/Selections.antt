-- What a selection of activities shows of itself, and what its calls change.
use Rattle.std.specs.Prelude.{ℕ, List, Option, option_map, Result, Ok, Err}
use Rattle.fedi_outside.specs.Causes.{next_count}
use Rattle.fedi_selection.specs.ActRows.{ActFields}
use Rattle.fedi_selection.specs.declared.selections.SelectionFault.{SelectionFault}
use Rattle.fedi_selection.specs.declared.selections.SelectionFault.TheVariants.{Failed, Memory}

-- a selection, as its callers see it
pub record SelectionState : Type 0 where
  pub laid : Option (List ActFields)  -- the rows that were laid last, if it reports them
  pub faults : ℕ  -- how many calls failed; it saturates at 2^64 - 1

-- after a call that was refused: all is as before, and a failure is counted
abbrev pub after_refusal : SelectionFault → SelectionState → SelectionState
after_refusal Failed s = record s { faults = next_count s.faults }
after_refusal Memory s = s

-- after a call that lays these rows, or is refused
abbrev pub after_lay : {T : Type 0} → Result T SelectionFault → List ActFields → SelectionState
    → SelectionState
after_lay (Ok done) rows s = record s { laid = option_map (λ _. rows) s.laid }
after_lay (Err fault) rows s = after_refusal fault s

-- after a call that picks rows, or is refused
abbrev pub after_pick : {T : Type 0} → Result T SelectionFault → SelectionState → SelectionState
after_pick (Ok found) s = s
after_pick (Err fault) s = after_refusal fault s
