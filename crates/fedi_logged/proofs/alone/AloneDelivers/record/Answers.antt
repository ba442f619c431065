use Rattle.std.proofs.Common.{None}
use Rattle.fedi_log.proofs.Growing.{goes_here}
use Rattle.fedi_logged.proofs.Own.{alone_item}
use Rattle.fedi_logged.proofs.alone.AloneDelivers.record.Goals as goal

pub returns-clause-ready : goal.returns-clause-ready
returns-clause-ready g c = (
  c.requires.ready.0,
  alone_item None _ _ _ _ c.requires.ready.1
      (c.record.ensures.recorded c.requires.claimed.0 c.requires.claimed.1).grown,
)

pub returns-clause-recorded : goal.returns-clause-recorded
returns-clause-recorded g c = λ p has. (
  c.args.self.now.logged.log,
  goes_here None c.args.self.now.logged.log,
  c.log_length-front.ensures,
  c.record.ensures.recorded p has,
)
