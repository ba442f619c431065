use Rattle.std.proofs.Common.{◌≡◌, List, map, take}
use Rattle.fedi_selection.specs.ActRows.{ActFields}
use Rattle.fedi_selection.specs.Acts.{shown_row}
use Rattle.fedi_selection.proofs.laying.read_rows.Given as goal

abbrev pub invariant-loop-row : goal.invariant-loop-row
invariant-loop-row l = (acts : List ActFields) → l.rows ≡ map shown_row acts → l.read.items ≡ take l.row-index acts
