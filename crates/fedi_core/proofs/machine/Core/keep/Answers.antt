use Rattle.std.proofs.Common.{◌≡◌, ◌∙◌, Result, ap, subst, sym, true}
use Rattle.fedi_town.specs.Histories.{town}
use Rattle.fedi_town.specs.Legal.{IsLegal, is_admissible}
use Rattle.fedi_core.specs.Keeping.{Keeps, MayAdd, fault_by}
use Rattle.fedi_core.specs.declared.keeping.KeepError.{KeepError}
use Rattle.fedi_core.specs.declared.keeping.KeepFault.{KeepFault}
use Rattle.fedi_core.proofs.Kept.{keeps_stored, machine_of}
use Rattle.fedi_core.proofs.Growing.{deliveries_hidden, machine_stays, owners_told, posts_hidden}
use Rattle.fedi_core.proofs.machine.Core.keep.Goals as goal
use Rattle.fedi_core.proofs.machine.Core.keep.Goals.{in-Ok+in-Hosted-1, in-Ok+in-PeerSet-1}
use Rattle.fedi_core.proofs.machine.Core.keep.Goals.{in-Ok+in-Local-1, in-Ok+in-Remote-1}
use Rattle.fedi_core.proofs.machine.Core.keep.Goals.{in-Ok+in-Tried-1, in-Ok+in-Made-1, in-Err}

pub store_entry-stored-requires-clause-legal : goal.store_entry-stored-requires-clause-legal
store_entry-stored-requires-clause-legal g c = c.self.invariant.stands.legal

pub store_entry-stored-requires-clause-admissible : goal.store_entry-stored-requires-clause-admissible
store_entry-stored-requires-clause-admissible g c =
    let may = subst (λ m. MayAdd (town m.history) c.args.entry) (sym c.self.view_is) c.requires in
    subst (λ t. is_admissible t c.args.entry ≡ true) (sym c.self.invariant.stands.made) may.admissible

pub invariant_of-self : goal.invariant_of-self
invariant_of-self g c =
    let stored = c.store_entry-stored.ensures in
    let holding = g.S.Shelf.holding in
    let shown = g.P.Keeper.shown in
    machine_stays g.P.Keeper.growth g.P.Keeper.room c.store_entry-stored.result (holding c.self.inside.shelf) (holding c.store_entry-stored.new.shelf)
    (shown c.self.inside.keeper) (shown c.store_entry-stored.new.keeper) c.self.inside.queue c.store_entry-stored.new.queue c.args.entry c.self.invariant
    (subst (λ m. MayAdd (town m.history) c.args.entry) (sym c.self.view_is) c.requires) stored.formed stored.formed_failed stored.grown stored.same
    stored.queue_grown stored.queue_same stored.stores.added stored.stores.refused

pub returns-clause-keeps : goal.returns-clause-keeps
returns-clause-keeps g c =
    let stored = c.store_entry-stored in
    let f = g.S.Shelf.holding c.self.inside.shelf in
    let f' = g.S.Shelf.holding stored.new.shelf in
    let after = machine_of f' stored.new.keeper stored.new.queue in
    let of = fault_by (λ (e : KeepError). e.fault) in
    let same : of c.match-stored.result ≡ stored.result =
    elim c.match-stored.branch [
      | in-Ok+in-Hosted-1 w ↦ ap of w.result-is ∙ sym w.in-Ok.is
      | in-Ok+in-PeerSet-1 w ↦ ap of w.result-is ∙ sym w.in-Ok.is
      | in-Ok+in-Local-1 w ↦ ap of w.result-is ∙ sym w.in-Ok.is
      | in-Ok+in-Remote-1 w ↦ ap of w.result-is ∙ sym w.in-Ok.is
      | in-Ok+in-Tried-1 w ↦ ap of w.result-is ∙ sym w.in-Ok.is
      | in-Ok+in-Made-1 w ↦ ap of w.result-is ∙ sym w.in-Ok.is
      | in-Err w ↦ ap of w.result-is ∙ sym w.in-Err.is
    ] in
    let may = subst (λ m. MayAdd (town m.history) c.args.entry) (sym c.self.view_is) c.requires in
    subst (λ (r : Result (Unit {0}) KeepFault).
    Keeps g.P.Keeper c.args.self.now after c.args.entry r) (sym same)
    (subst (λ m. Keeps g.P.Keeper m after c.args.entry stored.result) c.self.view_is
    (keeps_stored g.P.Keeper f f' c.self.inside.keeper stored.new.keeper c.self.inside.queue
    stored.new.queue c.args.entry stored.result c.self.invariant (invariant_of-self g c) may
    stored.ensures.formed_failed stored.ensures.grown stored.ensures.same
    stored.ensures.queue_grown stored.ensures.stores))

pub returns-clause-unseen : goal.returns-clause-unseen
returns-clause-unseen g c =
    posts_hidden c.args.self.now.history (g.S.Shelf.holding c.store_entry-stored.new.shelf).history
    (subst IsLegal (ap (λ m. m.history) c.self.view_is) c.self.invariant.stands.legal) (invariant_of-self g c).stands.legal

pub returns-clause-unseen_deliveries : goal.returns-clause-unseen_deliveries
returns-clause-unseen_deliveries g c = deliveries_hidden c.args.self.now.history (g.S.Shelf.holding c.store_entry-stored.new.shelf).history

pub returns-clause-added_inboxes : goal.returns-clause-added_inboxes
returns-clause-added_inboxes g c =
    owners_told c.args.self.now.history (g.S.Shelf.holding c.store_entry-stored.new.shelf).history
    (subst IsLegal (ap (λ m. m.history) c.self.view_is) c.self.invariant.stands.legal)
