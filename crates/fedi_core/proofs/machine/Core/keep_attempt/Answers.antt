use Rattle.std.proofs.Common.{◌≡◌, ◌+◌, List, ap, subst, sym, ◌∙◌}
use Rattle.fedi_objects.specs.declared.entry.Entry.{Entry}
use Rattle.fedi_queue.specs.declared.rows.Claim.{Claim}
use Rattle.fedi_queue.specs.declared.rows.QueueRow.{QueueRow}
use Rattle.fedi_queue.specs.Queues.{IsHeld, Queued}
use Rattle.fedi_queue.specs.Rows.{rows_of}
use Rattle.fedi_queue.proofs.ClaimedRows.{AreRowsOf}
use Rattle.fedi_town.specs.Histories.{town}
use Rattle.fedi_town.specs.Towns.{Town}
use Rattle.fedi_core.specs.Delivering.{attempt_of, claims_in}
use Rattle.fedi_core.specs.Keeping.{MayAdd}
use Rattle.fedi_core.specs.Machines.{KeepsClaims}
use Rattle.fedi_core.proofs.Claims.{attempt_may, fewer_recorded}
use Rattle.fedi_core.proofs.machine.Core.keep_attempt.Goals as goal

pub attempt_of-requires-clause-rows : goal.attempt_of-requires-clause-rows
attempt_of-requires-clause-rows g c =
    let q : Queued = c.self.inside.queue in
    subst (λ (ys : List QueueRow). AreRowsOf (town q.history) ys) c.entries.ensures.rows c.entries.ensures.queue
    ∙ ap (λ (h : List Entry). rows_of (town h)) c.self.invariant.queued
    ∙ sym (ap (λ f. rows_of f.town) c.facts.ensures ∙ ap (λ (t : Town). rows_of t) c.self.invariant.stands.made)

pub keep-requires : goal.keep-requires
keep-requires g c =
    let q : Queued = c.self.inside.queue in
    let d : Claim = c.args.claim.now in
    let h : List Entry = (g.S.Shelf.holding c.self.inside.shelf).history in
    let same : AreRowsOf (town h) q.rows =
    subst (λ (k : List Entry). AreRowsOf (town k) q.rows) c.self.invariant.queued
    (subst (λ (ys : List QueueRow). AreRowsOf (town q.history) ys) c.entries.ensures.rows c.entries.ensures.queue) in
    let held : IsHeld d q.rows = subst (λ m. IsHeld d m.rows) (sym c.self.view_is) c.requires.held in
    let facts : c.facts.result.now.town ≡ town h = ap (λ f. f.town) c.facts.ensures ∙ c.self.invariant.stands.made in
    let entry : c.in_ok-entry.entry ≡ attempt_of (town h) q.rows d c.args.came c.args.moment =
    c.in_ok-entry.ensures ∙ ap (λ (t : Town). attempt_of t q.rows d c.args.came c.args.moment) facts in
    subst (λ (k : List Entry). MayAdd (town k) c.in_ok-entry.entry) (ap (λ m. m.history) c.self.view_is)
    (subst (λ (e : Entry). MayAdd (town h) e) (sym entry)
    (attempt_may h q.rows d c.args.came c.args.moment c.self.invariant.stands.legal same held c.requires.came c.requires.later))

pub returns-in-Ok-clause-counted : goal.returns-in-Ok-clause-counted
returns-in-Ok-clause-counted g c =
    let q : Queued = c.self.inside.queue in
    let d : Claim = c.args.claim.now in
    let h : List Entry = (g.S.Shelf.holding c.self.inside.shelf).history in
    let new : List QueueRow = c.keep.new.self.rows in
    let same : AreRowsOf (town h) q.rows =
    subst (λ (k : List Entry). AreRowsOf (town k) q.rows) c.self.invariant.queued
    (subst (λ (ys : List QueueRow). AreRowsOf (town q.history) ys) c.entries.ensures.rows c.entries.ensures.queue) in
    let held : IsHeld d q.rows = subst (λ m. IsHeld d m.rows) (sym c.self.view_is) c.requires.held in
    let facts : c.facts.result.now.town ≡ town h = ap (λ f. f.town) c.facts.ensures ∙ c.self.invariant.stands.made in
    let entry : c.in_ok-entry.entry ≡ attempt_of (town h) q.rows d c.args.came c.args.moment =
    c.in_ok-entry.ensures ∙ ap (λ (t : Town). attempt_of t q.rows d c.args.came c.args.moment) facts in
    let keeps : KeepsClaims (town h).acts (attempt_of (town h) q.rows d c.args.came c.args.moment) q.rows new =
    subst (λ (e : Entry). KeepsClaims (town h).acts e q.rows new) entry
    (subst (λ m. KeepsClaims (town m.history).acts c.in_ok-entry.entry m.rows new) (sym c.self.view_is) c.in-Ok.ensures.keeps.claims) in
    subst (λ m. claims_in m.rows ≡ claims_in new + 1) c.self.view_is
    (fewer_recorded h q.rows new d c.args.came c.args.moment c.self.invariant.stands.legal same held keeps)
