use Rattle.std.proofs.Common.{None}
use Rattle.fedi_log.proofs.Growing.{goes_here}
use Rattle.fedi_logged.proofs.alone.AloneDelivers.inbox_post.Goals as goal

pub inbox_post-requires : goal.inbox_post-requires
inbox_post-requires g c = record { claimed = (None, c.requires.claimed) }

pub returns-clause-goes : goal.returns-clause-goes
returns-clause-goes g c = goes_here None c.args.self.now.logged.log

pub returns-clause-post : goal.returns-clause-post
returns-clause-post g c = λ p has. c.inbox_post.ensures None p has
