use Rattle.std.proofs.Common.{None}
use Rattle.fedi_log.proofs.Growing.{goes_here}
use Rattle.fedi_logged.proofs.Attempting.{own_stays}
use Rattle.fedi_logged.proofs.Own.{alone_item}
use Rattle.fedi_logged.proofs.alone.AloneDelivers.release.Goals as goal

pub returns-clause-ready : goal.returns-clause-ready
returns-clause-ready g c = (
  c.requires.ready.0,
  alone_item None _ _ _ _ c.requires.ready.1
      (c.release.ensures.released c.requires.claimed.0 c.requires.claimed.1),
)

pub returns-clause-stays : goal.returns-clause-stays
returns-clause-stays g c =
    own_stays _ _ c.release.ensures.turn

pub returns-clause-released : goal.returns-clause-released
returns-clause-released g c = λ p has. (
  c.args.self.now.logged.log,
  goes_here None c.args.self.now.logged.log,
  c.release.ensures.released p has,
)
