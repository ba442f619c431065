use Rattle.fedi_queue.proofs.RowsOf.{gathered_from}
use Rattle.fedi_queue.proofs.making.rows_counted.Goals as goal

pub loop-place-preserved : goal.loop-place-preserved
loop-place-preserved g c = gathered_from _ _ _ _ c.shown-act.result.now _ _ c.shown-act.ensures.act c.loop-place.invariant c.in_ok-add_rows_of.ensures
