use Rattle.std.proofs.Common.{rules, arith, ◌<◌, ◌≤◌, ◌+◌, List, ℕ, length, sym, subst, ◌∙◌}
use Rattle.fedi_visible.proofs.Pages.{IsPageOf, has_room, none_counted, one_counted}
use Rattle.fedi_visible.proofs.Costs.{steps_more}
use Rattle.fedi_visible.proofs.Items.{listed_there, none_listed, one_listed, places_before}
use Rattle.fedi_visible.proofs.places.page.Goals as goal
use Rattle.fedi_visible.proofs.places.page.Goals.{then-is_first, else-is_first}

pub loop-place-init : goal.loop-place-init
loop-place-init g c = record {
  gathered = none_counted c.args.number c.empty-page.result.total c.empty-page.result.places.items c.empty-page.ensures.total c.empty-page.ensures.places;
  few = omega (arith, c.empty-page.ensures.total);
  cost = omega arith;
}

pub add_act-requires-clause-room : goal.add_act-requires-clause-room
add_act-requires-clause-room g c =
    let t = c.args.facts.now.town in
    has_room c.args.number (places_before t c.args.caller.now c.args.which.now c.args.owner.now c.loop-place.place) c.loop-place.page.total c.loop-place.page.places.items
    c.loop-place.invariant.gathered

pub loop-place-preserved : goal.loop-place-preserved
loop-place-preserved g c =
    let t = c.args.facts.now.town in
    let caller = c.args.caller.now in
    let which = c.args.which.now in
    let owner = c.args.owner.now in
    let number = c.args.number in
    let n = c.loop-place.place in
    let so_far = c.loop-place.invariant in
    let total = c.loop-place.page.total in
    let found = c.loop-place.page.places.items in
    let within : n < length t.acts = search rules in
    let read : c.is_first.new.steps ≤ c.loop-place.steps + (n + 1) = omega (arith, c.shown-act.ensures.cost, c.is_first.ensures.cost) in
    let cost = steps_more (length t.acts) n c.loop-place.steps c.args.steps.now c.is_first.new.steps within so_far.cost read in
    let first = listed_there t caller which owner n c.shown-act.result.now c.shown-act.ensures.act ∙ sym c.is_first.ensures.value in
    elim c.if-is_first.branch [
      | then-is_first w ↦ rw w.page-is (record {
        gathered = subst (λ (places : List ℕ). IsPageOf number places w.add_act.new.self.total w.add_act.new.self.places.items)
            (sym (one_listed t caller which owner n (first ∙ w.if-is_first.true)))
            (one_counted number (places_before t caller which owner n) total found n _ _ so_far.gathered w.add_act.ensures.total w.add_act.ensures.places);
        few = omega (arith, so_far.few, w.add_act.ensures.total);
        cost = cost;
      })
      | else-is_first w ↦ rw w.page-is (record {
        gathered = subst (λ (places : List ℕ). IsPageOf number places total found)
            (sym (none_listed t caller which owner n (first ∙ w.if-is_first.false))) so_far.gathered;
        few = omega (arith, so_far.few);
        cost = cost;
      })
    ]
