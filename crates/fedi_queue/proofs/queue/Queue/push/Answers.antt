use Rattle.std.proofs.Common.{◌≡◌, Some}
use Rattle.fedi_queue.proofs.Held.{few_pushed}
use Rattle.fedi_queue.proofs.queue.Queue.push.Goals as goal

pub apply_change-requires-clause-few : goal.apply_change-requires-clause-few
apply_change-requires-clause-few c =
    let is : c.self.inside.room ≡ Some c.in-Some.field-0 = cc in
    few_pushed _ _ _ c.in-Some.field-0 c.self.invariant is
