use Rattle.fedi_queue.proofs.Listed.{more_taken}
use Rattle.fedi_queue.proofs.rows.earliest_of.Goals as goal

pub loop-row-preserved : goal.loop-row-preserved
loop-row-preserved c =
    more_taken _ _ _ _ c.row-item.result _ c.loop-row.invariant c.loop-row-test.true c.row-item.is c.earlier-earliest.ensures.none_later c.earlier-earliest.ensures.own
