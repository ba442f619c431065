use Rattle.fedi_queue.proofs.Addressed.{known_at}
use Rattle.fedi_queue.proofs.Fitting.{settling_fits, unknown_fits}
use Rattle.fedi_queue.proofs.changes.settle.Goals as goal

pub returns-in-Some-clause-fits : goal.returns-in-Some-clause-fits
returns-in-Some-clause-fits c =
    settling_fits _ _ _ _ _ _ c.args.rows.now _ (known_at _ _ c.requires.town c.requires.legal) c.requires.rows c.in-Some.ensures c.settle_at.ensures.settled

pub returns-in-None-clause-fits : goal.returns-in-None-clause-fits
returns-in-None-clause-fits c = unknown_fits _ _ _ _ _ c.in-None.ensures
