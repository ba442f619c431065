use Rattle.std.proofs.Common.{◌≡◌, ◌+◌, List, ap, subst}
use Rattle.std.specs.Prelude.{IfSome, option_map}
use Rattle.std.specs.List.{find}
use Rattle.fedi_objects.specs.declared.entry.Entry.{Entry}
use Rattle.fedi_queue.specs.declared.rows.QueueRow.{QueueRow}
use Rattle.fedi_queue.specs.Claims.{claim, is_free_at}
use Rattle.fedi_queue.specs.Queues.{Queued}
use Rattle.fedi_queue.proofs.ClaimedRows.{AreRowsOf}
use Rattle.fedi_town.specs.Histories.{town}
use Rattle.fedi_core.specs.Delivering.{IsClaimOf, claimed_id, claimed_recipient, claimed_row, claims_in}
use Rattle.fedi_core.proofs.Claims.{claims_are_of, first_claimed, more_claimed}
use Rattle.fedi_core.proofs.machine.Core.claim.Goals as goal

pub returns-clause-row : goal.returns-clause-row
returns-clause-row g c =
    let q : Queued = c.self.inside.queue in
    let same : AreRowsOf (town q.history) q.rows = subst (λ (ys : List QueueRow). AreRowsOf (town q.history) ys) c.entries.ensures.rows c.entries.ensures.queue in
    subst (λ (ys : List QueueRow). IfSome c.claim.result (λ d. claimed_row c.claim.new.self.rows d ≡ option_map claim (find (is_free_at c.args.moment) ys)))
    (ap (λ m. m.rows) c.self.view_is)
    (first_claimed (town q.history) c.args.moment q.rows c.claim.new.self.rows c.claim.result same c.claim.ensures.first (ap (λ (r : Queued). r.rows) c.claim.ensures.claimed))

pub returns-clause-delivery : goal.returns-clause-delivery
returns-clause-delivery g c =
    let q : Queued = c.self.inside.queue in
    let same : AreRowsOf (town q.history) q.rows = subst (λ (ys : List QueueRow). AreRowsOf (town q.history) ys) c.entries.ensures.rows c.entries.ensures.queue in
    subst (λ (h : List Entry). IfSome c.claim.result (λ d. IsClaimOf (town h) d (claimed_id (town h).acts d) (claimed_recipient c.claim.new.self.rows d)))
    c.self.invariant.queued
    (claims_are_of (town q.history) c.args.moment q.rows c.claim.new.self.rows c.claim.result same (ap (λ (r : Queued). r.rows) c.claim.ensures.claimed) c.claim.ensures.held)

pub returns-clause-counted : goal.returns-clause-counted
returns-clause-counted g c =
    subst (λ (ys : List QueueRow). IfSome c.claim.result (λ _. claims_in c.claim.new.self.rows ≡ claims_in ys + 1)) (ap (λ m. m.rows) c.self.view_is)
    (more_claimed c.args.moment c.self.inside.queue.rows c.claim.new.self.rows c.claim.result c.claim.ensures.first (ap (λ (r : Queued). r.rows) c.claim.ensures.claimed))
