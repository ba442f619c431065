use Rattle.std.proofs.Common.{◌∙◌, List, ap, subst, sym}
use Rattle.std.specs.Prelude.{IsTrue, is_some}
use Rattle.fedi_core.proofs.Claims.{claimed_some}
use Rattle.fedi_core.proofs.machine.Core.activity_of.Goals as goal
use Rattle.fedi_effects.specs.Holdings.{Holding}
use Rattle.fedi_objects.specs.declared.entry.Entry.{Entry}
use Rattle.fedi_queue.specs.Queues.{IsHeld, Queued}
use Rattle.fedi_queue.specs.Rows.{id_at}
use Rattle.fedi_queue.specs.declared.rows.Claim.{Claim}
use Rattle.fedi_queue.specs.declared.rows.QueueRow.{QueueRow}
use Rattle.fedi_queue.proofs.ClaimedRows.{AreRowsOf}
use Rattle.fedi_town.specs.Histories.{town}
use Rattle.fedi_town.specs.Towns.{Town}

pub id_at-requires : goal.id_at-requires
id_at-requires g c =
    let q : Queued = c.self.inside.queue in
    let d : Claim = c.args.claim.now in
    let same : AreRowsOf (town q.history) q.rows = subst (λ (ys : List QueueRow). AreRowsOf (town q.history) ys) c.entries.ensures.rows c.entries.ensures.queue in
    let held : IsHeld d q.rows = subst (λ (ys : List QueueRow). IsHeld d ys) (sym (ap (λ m. m.rows) c.self.view_is)) c.requires in
    subst (λ (t : Town). IsTrue (is_some (id_at t.acts d.activity)))
    (ap (λ (h : List Entry). town h) c.self.invariant.queued ∙ sym c.self.invariant.stands.made ∙ sym (ap (λ (h : Holding). h.town) c.facts.ensures))
    (claimed_some (town q.history) q.rows d same held)
