use Rattle.std.proofs.Common.{◌≡◌, take}
use Rattle.fedi_selection.proofs.memory_selections.copies.Given as goal

abbrev pub invariant-loop-row : goal.invariant-loop-row
invariant-loop-row l = l.copies.items ≡ take l.row-index l.rows
