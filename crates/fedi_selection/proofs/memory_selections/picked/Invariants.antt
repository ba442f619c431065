use Rattle.std.proofs.Common.{◌≡◌, take}
use Rattle.fedi_selection.specs.ActRows.{picked}
use Rattle.fedi_selection.proofs.memory_selections.picked.Given as goal

abbrev pub invariant-loop-row : goal.invariant-loop-row
invariant-loop-row l = l.found.items ≡ picked l.actor l.kind (take l.row-index l.rows)
