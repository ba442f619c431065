use Rattle.std.proofs.Common.{ap}
use Rattle.fedi_queue.specs.Claims.{Listed}
use Rattle.fedi_queue.proofs.Held.{held_claimed, sound_claimed}
use Rattle.fedi_queue.proofs.queue.Queue.claim.Goals as goal

pub invariant_of-self : goal.invariant_of-self
invariant_of-self c = sound_claimed _ _ _ _ c.args.moment c.self.invariant c.claim.ensures.claimed

pub returns-clause-held : goal.returns-clause-held
returns-clause-held c = held_claimed c.args.moment _ _ _ c.claim.ensures.first (ap (λ (l : Listed). l.rows) c.claim.ensures.claimed)
