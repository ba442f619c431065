use Rattle.std.proofs.Common.{arith, ◌≡◌, ◌+◌, ◌≤◌, List, ℕ, [], length, refl, rules, sym, subst, ◌∙◌, take}
use Rattle.std.specs.Prelude.{filter}
use Rattle.fedi_effects.specs.Holdings.{Holding}
use Rattle.fedi_visible.proofs.Pages.{IsPageOf, has_room, one_counted}
use Rattle.fedi_pins.specs.declared.pins.Listing.TheVariants.{Boards}
use Rattle.fedi_pins.specs.Held.{holder, is_filled_first}
use Rattle.fedi_pins.specs.Maps.{place_in}
use Rattle.fedi_pins.proofs.Boards.{boards_held, cost_more, cost_within, filled_first, page_gathered}
use Rattle.fedi_pins.proofs.Positions.{none_more, one_more, pins_there}
use Rattle.fedi_pins.proofs.lists.boards_page.Goals as goal
use Rattle.fedi_pins.proofs.lists.boards_page.Goals.{then-branch, else-branch}

pub hold-requires : goal.hold-requires
hold-requires g c =
    rw (c.facts-facts.ensures, c.as_slice-places.ensures.value ∙ c.in_ok-found.ensures.places) (pins_there (g.S.Shelf.holding c.args.shelf.now).town c.args.member.now)

pub returns-in_err-is_filled_first-clause-cost : goal.returns-in_err-is_filled_first-clause-cost
returns-in_err-is_filled_first-clause-cost g c =
    let t = (g.S.Shelf.holding c.args.shelf.now).town in
    let look = g.S.Shelf.pin_cost c.args.shelf.now in
    let caller = c.args.caller.now in
    let member = c.args.member.now in
    let all = c.as_slice-places.result.now in
    let i = c.loop-place.place-index in
    let held = subst (λ (h : Holding). (id : List ℕ) → place_in c.in_ok-held.held id ≡ holder h.town caller Boards member [] all id) c.facts-facts.ensures c.in_ok-held.ensures.held in
    let within : i + 1 ≤ length all = omega (arith, c.loop-place-test.true) in
    cost_within look t caller member [] all (i + 1) c.args.steps.now c.is_filled_first.new.steps (c.as_slice-places.ensures.value ∙ c.in_ok-found.ensures.places) within
    (cost_more look t caller member [] all c.in_ok-held.held held i _ c.args.steps.now c.loop-place.steps c.is_filled_first.new.steps c.loop-place-test.true refl
    c.loop-place.invariant.cost c.is_filled_first.ensures.cost)

pub add-requires-clause-room : goal.add-requires-clause-room
add-requires-clause-room g c =
    let t = (g.S.Shelf.holding c.args.shelf.now).town in
    let all = c.as_slice-places.result.now in
    has_room c.args.number (filter (is_filled_first t c.args.caller.now c.args.member.now [] all) (take c.loop-place.place-index all)) c.loop-place.page.total
    c.loop-place.page.places.items c.loop-place.invariant.gathered

pub loop-place-preserved : goal.loop-place-preserved
loop-place-preserved g c =
    let t = (g.S.Shelf.holding c.args.shelf.now).town in
    let look = g.S.Shelf.pin_cost c.args.shelf.now in
    let caller = c.args.caller.now in
    let member = c.args.member.now in
    let number = c.args.number in
    let all = c.as_slice-places.result.now in
    let listed = is_filled_first t caller member [] all in
    let i = c.loop-place.place-index in
    let so_far = c.loop-place.invariant in
    let total = c.loop-place.page.total in
    let found = c.loop-place.page.places.items in
    let held = subst (λ (h : Holding). (id : List ℕ) → place_in c.in_ok-held.held id ≡ holder h.town caller Boards member [] all id) c.facts-facts.ensures c.in_ok-held.ensures.held in
    let cost = cost_more look t caller member [] all c.in_ok-held.held held i _ c.args.steps.now c.loop-place.steps c.is_filled_first.new.steps c.loop-place-test.true refl
    so_far.cost c.is_filled_first.ensures.cost in
    let is = filled_first t caller member [] all c.in_ok-held.held held _ _ c.in_ok-is_filled_first.ensures.value in
    elim c.if-branch.branch [
      | then-branch w ↦ rw w.page-is (record {
        gathered = subst (λ (places : List ℕ). IsPageOf number places w.add.new.self.total w.add.new.self.places.items)
            (sym (one_more listed all i _ c.loop-place-test.true refl (sym is ∙ w.if-branch.true)))
            (one_counted number (filter listed (take i all)) total found _ _ _ so_far.gathered w.add.ensures.total w.add.ensures.places);
        few = omega (arith, so_far.few, w.add.ensures.total);
        cost = cost;
      })
      | else-branch w ↦ rw w.page-is (record {
        gathered = subst (λ (places : List ℕ). IsPageOf number places total found)
            (sym (none_more listed all i _ c.loop-place-test.true refl (sym is ∙ w.if-branch.false))) so_far.gathered;
        few = omega (arith, so_far.few);
        cost = cost;
      })
    ]

pub returns-clause-page : goal.returns-clause-page
returns-clause-page g c =
    let t = (g.S.Shelf.holding c.args.shelf.now).town in
    let caller = c.args.caller.now in
    let member = c.args.member.now in
    let all = c.as_slice-places.result.now in
    page_gathered t Boards c.args.number (is_filled_first t caller member [] all) all c.loop-place.place-index _ c.loop-place.page c.loop-place-test.false
    (rw (c.as_slice-places.ensures.value ∙ c.in_ok-found.ensures.places) (boards_held t caller member [])) c.loop-place.invariant.gathered

pub returns-clause-cost : goal.returns-clause-cost
returns-clause-cost g c =
    let all = c.as_slice-places.result.now in
    let past : c.loop-place.place-index ≤ length all = search rules in
    cost_within (g.S.Shelf.pin_cost c.args.shelf.now) (g.S.Shelf.holding c.args.shelf.now).town c.args.caller.now c.args.member.now [] all c.loop-place.place-index
    c.args.steps.now c.loop-place.steps (c.as_slice-places.ensures.value ∙ c.in_ok-found.ensures.places) past c.loop-place.invariant.cost
