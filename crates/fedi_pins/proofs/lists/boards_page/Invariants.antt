use Rattle.std.proofs.Common.{[], ◌+◌, ◌≤◌, take, length}
use Rattle.std.specs.Prelude.{filter}
use Rattle.std.specs.List.{sum_by}
use Rattle.fedi_visible.proofs.Pages.{IsPageOf}
use Rattle.fedi_pins.specs.Held.{is_filled_first}
use Rattle.fedi_pins.proofs.Boards.{cost_at}
use Rattle.fedi_pins.proofs.lists.boards_page.Given as goal

abbrev pub invariant-loop-place : goal.invariant-loop-place
invariant-loop-place g l =
    let t = (g.S.Shelf.holding l.shelf).town in
    let look = g.S.Shelf.pin_cost l.shelf in
    record {
      gathered : IsPageOf l.number (filter (is_filled_first t l.caller l.member [] l.places) (take l.place-index l.places)) l.page.total l.page.places.items;
      few : l.page.total ≤ l.place-index;
      cost : l.steps ≤ l.fn.steps + (((look + length l.places) + l.place-index) + sum_by (cost_at look t l.caller l.member [] l.places) (take l.place-index l.places));
    }
