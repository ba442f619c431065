use Rattle.fedi_queue.proofs.RowsOf.{gathered_to}
use Rattle.fedi_queue.proofs.making.add_rows_to.Goals as goal

pub loop-place-preserved : goal.loop-place-preserved
loop-place-preserved c =
    gathered_to _ _ _ _ _ _ _ c.index-recipients-place.result _ _ _ _ c.loop-place-test.true c.index-recipients-place.is c.loop-place.invariant c.in_ok-add_row.ensures
