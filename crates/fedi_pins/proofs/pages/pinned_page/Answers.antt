use Rattle.std.proofs.Common.{arith, List, ℕ, get_or, refl, sym, subst, ◌∙◌, take}
use Rattle.std.specs.Prelude.{filter}
use Rattle.fedi_visible.proofs.Pages.{IsPageOf, has_room, none_counted, one_counted}
use Rattle.fedi_pins.specs.Held.{is_holder}
use Rattle.fedi_pins.specs.declared.pins.Listing.TheVariants.{Objects}
use Rattle.fedi_pins.proofs.Boards.{page_gathered}
use Rattle.fedi_pins.proofs.Listed.{listed_held}
use Rattle.fedi_pins.proofs.Positions.{adds_alone, directed_there, holder_is, none_more, one_more, there_at}
use Rattle.fedi_pins.proofs.pages.pinned_page.Goals as goal
use Rattle.fedi_pins.proofs.pages.pinned_page.Goals.{then-lists_item, else-lists_item}

pub hold-requires : goal.hold-requires
hold-requires g c = rw c.requires (directed_there c.args.facts.now.town c.args.board.now)

pub lists_item-requires-clause-there : goal.lists_item-requires-clause-there
lists_item-requires-clause-there g c =
    there_at c.args.facts.now.town c.args.places.now c.loop-place.place-index _ (rw c.requires (directed_there c.args.facts.now.town c.args.board.now)) c.loop-place-test.true refl

pub lists_item-requires-clause-adds : goal.lists_item-requires-clause-adds
lists_item-requires-clause-adds g c =
    adds_alone c.args.facts.now.town c.args.caller.now Objects c.args.author.now c.args.board.now c.args.places.now c.in_ok-held.held c.in_ok-held.ensures.held

pub loop-place-init : goal.loop-place-init
loop-place-init g c = record {
  gathered = none_counted c.args.number c.empty-page.result.total c.empty-page.result.places.items c.empty-page.ensures.total c.empty-page.ensures.places;
  few = omega (arith, c.empty-page.ensures.total);
  cost = omega (arith, c.in_ok-held.ensures.cost);
}

pub add-requires-clause-room : goal.add-requires-clause-room
add-requires-clause-room g c =
    let listed = is_holder c.args.facts.now.town c.args.caller.now Objects c.args.author.now c.args.board.now c.args.places.now in
    has_room c.args.number (filter listed (take c.loop-place.place-index c.args.places.now)) c.loop-place.page.total c.loop-place.page.places.items
    c.loop-place.invariant.gathered

pub loop-place-preserved : goal.loop-place-preserved
loop-place-preserved g c =
    let t = c.args.facts.now.town in
    let caller = c.args.caller.now in
    let author = c.args.author.now in
    let board = c.args.board.now in
    let all = c.args.places.now in
    let listed = is_holder t caller Objects author board all in
    let number = c.args.number in
    let i = c.loop-place.place-index in
    let so_far = c.loop-place.invariant in
    let total = c.loop-place.page.total in
    let found = c.loop-place.page.places.items in
    let is = c.lists_item.ensures.value ∙ holder_is t caller Objects author board all c.in_ok-held.held c.in_ok-held.ensures.held (get_or all i 0) in
    elim c.if-lists_item.branch [
      | then-lists_item w ↦ rw w.page-is (record {
        gathered = subst (λ (places : List ℕ). IsPageOf number places w.add.new.self.total w.add.new.self.places.items)
            (sym (one_more listed all i _ c.loop-place-test.true refl (sym is ∙ w.if-lists_item.true)))
            (one_counted number (filter listed (take i all)) total found _ _ _ so_far.gathered w.add.ensures.total w.add.ensures.places);
        few = omega (arith, so_far.few, w.add.ensures.total);
        cost = omega (arith, so_far.cost, c.lists_item.ensures.cost);
      })
      | else-lists_item w ↦ rw w.page-is (record {
        gathered = subst (λ (places : List ℕ). IsPageOf number places total found)
            (sym (none_more listed all i _ c.loop-place-test.true refl (sym is ∙ w.if-lists_item.false))) so_far.gathered;
        few = omega (arith, so_far.few);
        cost = omega (arith, so_far.cost, c.lists_item.ensures.cost);
      })
    ]

pub returns-clause-page : goal.returns-clause-page
returns-clause-page g c =
    let t = c.args.facts.now.town in
    let caller = c.args.caller.now in
    let author = c.args.author.now in
    let board = c.args.board.now in
    let all = c.args.places.now in
    page_gathered t Objects c.args.number (is_holder t caller Objects author board all) all c.loop-place.place-index _ c.loop-place.page c.loop-place-test.false
    (rw c.requires (listed_held t caller Objects author board)) c.loop-place.invariant.gathered
