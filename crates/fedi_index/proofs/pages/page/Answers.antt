use Rattle.std.proofs.Common.{arith, List, ℕ, refl, sym, subst, ◌∙◌}
use Rattle.fedi_visible.proofs.Pages.{IsPageOf, has_room, none_counted, one_counted}
use Rattle.std.specs.Prelude.{filter}
use Rattle.std.proofs.Common.{take}
use Rattle.fedi_index.specs.Candidates.{is_candidate}
use Rattle.fedi_index.proofs.Listed.{candidate_passes, candidate_there, none_more_listed, one_more_listed}
use Rattle.fedi_index.proofs.Readers.{first_for, goes_on}
use Rattle.fedi_visible.specs.Places.{is_listed}
use Rattle.fedi_index.proofs.pages.page.Goals as goal
use Rattle.fedi_index.proofs.pages.page.Goals.{then-is_first, else-is_first}

pub loop-place-init : goal.loop-place-init
loop-place-init g c = record {
  gathered = none_counted c.args.number c.empty-page.result.total c.empty-page.result.places.items c.empty-page.ensures.total c.empty-page.ensures.places;
  few = omega (arith, c.empty-page.ensures.total);
  cost = omega arith;
  reader = c.new-reader.ensures;
}

pub shown-act-requires : goal.shown-act-requires
shown-act-requires g c =
    candidate_there (is_candidate c.args.which.now c.args.owner.now) c.loop-place.place-index c.args.facts.now.town.acts c.args.candidates.now _ c.requires c.loop-place-test.true refl

pub is_first-requires-clause-candidate : goal.is_first-requires-clause-candidate
is_first-requires-clause-candidate g c =
    candidate_passes (is_candidate c.args.which.now c.args.owner.now) c.loop-place.place-index c.args.facts.now.town.acts c.args.candidates.now _ _ c.requires c.loop-place-test.true refl
    c.shown-act.ensures.act

pub is_first-requires-clause-goes : goal.is_first-requires-clause-goes
is_first-requires-clause-goes g c =
    let passes = candidate_passes (is_candidate c.args.which.now c.args.owner.now) c.loop-place.place-index c.args.facts.now.town.acts c.args.candidates.now _ _ c.requires c.loop-place-test.true refl
    c.shown-act.ensures.act in
    goes_on _ _ _ _ (c.new-reader.ensures ∙ sym c.loop-place.invariant.reader) (c.go_to_reader-goes_to.ensures _ passes)

pub add_act-requires-clause-room : goal.add_act-requires-clause-room
add_act-requires-clause-room g c =
    let listed = is_listed c.args.facts.now.town c.args.caller.now c.args.which.now c.args.owner.now in
    has_room c.args.number (filter listed (take c.loop-place.place-index c.args.candidates.now)) c.loop-place.page.total c.loop-place.page.places.items
    c.loop-place.invariant.gathered

pub loop-place-preserved : goal.loop-place-preserved
loop-place-preserved g c =
    let listed = is_listed c.args.facts.now.town c.args.caller.now c.args.which.now c.args.owner.now in
    let all = c.args.candidates.now in
    let number = c.args.number in
    let i = c.loop-place.place-index in
    let so_far = c.loop-place.invariant in
    let total = c.loop-place.page.total in
    let found = c.loop-place.page.places.items in
    let first = first_for c.args.facts.now.town c.args.caller.now c.args.which.now c.args.owner.now _ _ _ so_far.reader c.shown-act.ensures.act ∙ sym c.is_first.ensures.value in
    elim c.if-is_first.branch [
      | then-is_first w ↦ rw w.page-is (record {
        gathered = subst (λ (places : List ℕ). IsPageOf number places w.add_act.new.self.total w.add_act.new.self.places.items)
            (sym (one_more_listed listed all i _ c.loop-place-test.true refl (first ∙ w.if-is_first.true)))
            (one_counted number (filter listed (take i all)) total found _ _ _ so_far.gathered w.add_act.ensures.total w.add_act.ensures.places);
        few = omega (arith, so_far.few, w.add_act.ensures.total);
        cost = omega (arith, so_far.cost, c.shown-act.ensures.cost);
        reader = c.is_first.ensures.same ∙ so_far.reader;
      })
      | else-is_first w ↦ rw w.page-is (record {
        gathered = subst (λ (places : List ℕ). IsPageOf number places total found)
            (sym (none_more_listed listed all i _ c.loop-place-test.true refl (first ∙ w.if-is_first.false))) so_far.gathered;
        few = omega (arith, so_far.few);
        cost = omega (arith, so_far.cost, c.shown-act.ensures.cost);
        reader = c.is_first.ensures.same ∙ so_far.reader;
      })
    ]
