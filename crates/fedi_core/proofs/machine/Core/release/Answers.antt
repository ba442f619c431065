use Rattle.std.proofs.Common.{◌≡◌, ◌+◌, List, ap, subst, sym}
use Rattle.fedi_queue.specs.declared.rows.QueueRow.{QueueRow}
use Rattle.fedi_queue.specs.Queues.{IsHeld, Queued}
use Rattle.fedi_core.specs.Delivering.{claims_in}
use Rattle.fedi_core.proofs.Claims.{fewer_released}
use Rattle.fedi_core.proofs.machine.Core.release.Goals as goal

pub returns-clause-counted : goal.returns-clause-counted
returns-clause-counted g c =
    let are : c.self.inside.queue.rows ≡ c.args.self.now.rows = ap (λ m. m.rows) c.self.view_is in
    subst (λ (ys : List QueueRow). claims_in ys ≡ claims_in c.release.new.self.rows + 1) are
    (fewer_released c.args.claim c.self.inside.queue.rows c.release.new.self.rows (subst (λ (ys : List QueueRow). IsHeld c.args.claim ys) (sym are) c.requires)
    (ap (λ (r : Queued). r.rows) c.release.ensures))
