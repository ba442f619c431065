use Rattle.std.proofs.Common.{◌∙◌}
use Rattle.fedi_queue.proofs.Held.{sound_empty}
use Rattle.fedi_queue.proofs.queue.Queue.empty.Goals as goal

pub invariant_of-result : goal.invariant_of-result
invariant_of-result c = rw c.new.ensures (sound_empty c.new-3.result (c.new-3.ensures ∙ c.new-2.ensures.items))
