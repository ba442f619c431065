use Rattle.std.proofs.Common.{take}
use Rattle.std.specs.Prelude.{IsTrue}
use Rattle.std.specs.List.{list_all}
use Rattle.fedi_queue.specs.Claims.{is_not_before}
use Rattle.fedi_queue.proofs.rows.earliest_of.Given as goal

abbrev pub invariant-loop-row : goal.invariant-loop-row
invariant-loop-row l = IsTrue (list_all (is_not_before l.earliest) (take l.row-index l.rows))
