use Rattle.fedi_queue.proofs.Held.{sound_released}
use Rattle.fedi_queue.proofs.queue.Queue.release.Goals as goal

pub invariant_of-self : goal.invariant_of-self
invariant_of-self c = sound_released _ _ _ _ _ _ c.self.invariant c.release.ensures
