-- Selections in memory, as their callers see them.
use Rattle.std.specs.Prelude.{List, Some}
use Rattle.fedi_outside.specs.Plans.{Plan}
use Rattle.fedi_selection.specs.ActRows.{ActFields}
use Rattle.fedi_selection.specs.Selections.{SelectionState}

-- what is laid, and which calls fail
pub record MemorySelectionState : Type 0 where
  pub laid : List ActFields
  pub plan : Plan

-- what it shows
abbrev pub selection_shown : MemorySelectionState → SelectionState
selection_shown s = record { laid = Some s.laid; faults = s.plan.faults }
