use Rattle.fedi_core.proofs.Claims.{claimed_some}
use Rattle.fedi_core.proofs.attempts.attempt_of.Goals as goal

pub id_at-requires : goal.id_at-requires
id_at-requires c = claimed_some c.args.facts.now.town c.args.queue.now.rows c.args.claim.now c.requires.rows c.requires.held
