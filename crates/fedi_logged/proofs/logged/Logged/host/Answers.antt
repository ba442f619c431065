use Rattle.std.proofs.Common.{◌∙◌}
use Rattle.fedi_logged.proofs.Standing.{stands_host}
use Rattle.fedi_logged.proofs.logged.Logged.host.Goals as goal

pub returns : goal.returns
returns g c = c.host.ensures ∙ stands_host _ _ _ _ _ _ _ c.self.invariant.1 c.requires.hosted
