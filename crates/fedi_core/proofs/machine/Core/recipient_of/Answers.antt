use Rattle.std.proofs.Common.{List, ap, subst, sym, ◌∙◌}
use Rattle.fedi_objects.specs.declared.entry.Entry.{Entry}
use Rattle.fedi_queue.specs.declared.rows.Claim.{Claim}
use Rattle.fedi_queue.specs.declared.rows.QueueRow.{QueueRow}
use Rattle.fedi_queue.specs.Queues.{IsHeld, Queued}
use Rattle.fedi_queue.proofs.ClaimedRows.{AreRowsOf}
use Rattle.fedi_town.specs.Histories.{town}
use Rattle.fedi_core.specs.Delivering.{IsClaimOf, claimed_id}
use Rattle.fedi_core.proofs.Claims.{held_is_to, recipient_is}
use Rattle.fedi_core.proofs.machine.Core.recipient_of.Goals as goal

pub returns-clause-delivery : goal.returns-clause-delivery
returns-clause-delivery g c =
    let q : Queued = c.self.inside.queue in
    let d : Claim = c.args.claim.now in
    let same : AreRowsOf (town q.history) q.rows = subst (λ (ys : List QueueRow). AreRowsOf (town q.history) ys) c.entries.ensures.rows c.entries.ensures.queue in
    let held : IsHeld d q.rows = subst (λ (ys : List QueueRow). IsHeld d ys) (sym (ap (λ m. m.rows) c.self.view_is)) c.requires in
    subst (λ (h : List Entry). IsClaimOf (town h) d (claimed_id (town h).acts d) c.recipient_of.result.now) (c.self.invariant.queued ∙ ap (λ m. m.history) c.self.view_is)
    (held_is_to (town q.history) q.rows d c.recipient_of.result.now same held (recipient_is q.rows d c.recipient_of.result.now c.recipient_of.ensures))
