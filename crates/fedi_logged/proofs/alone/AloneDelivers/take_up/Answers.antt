use Rattle.std.proofs.Common.{None}
use Rattle.fedi_log.proofs.Growing.{goes_here}
use Rattle.fedi_logged.proofs.Attempting.{alone_taken, own_stays}
use Rattle.fedi_logged.proofs.alone.AloneDelivers.take_up.Goals as goal

pub returns-clause-ready : goal.returns-clause-ready
returns-clause-ready g c = (
  c.requires.ready.0,
  alone_taken None c.args.moment _ _ _ c.take_up.result c.requires.ready.1 c.take_up.ensures.taken,
)

pub returns-clause-stays : goal.returns-clause-stays
returns-clause-stays g c =
    own_stays _ _ c.take_up.ensures.turn

pub returns-clause-taken : goal.returns-clause-taken
returns-clause-taken g c = (
  c.args.self.now.logged.log,
  goes_here None c.args.self.now.logged.log,
  c.log_length-front.ensures,
  c.take_up.ensures.taken,
)
