use Rattle.std.proofs.Common.{◌+◌, ◌≤◌, take, length}
use Rattle.std.specs.Prelude.{filter}
use Rattle.fedi_visible.proofs.Pages.{IsPageOf}
use Rattle.fedi_pins.specs.Held.{is_holder}
use Rattle.fedi_pins.specs.declared.pins.Listing.TheVariants.{Objects}
use Rattle.fedi_pins.proofs.pages.pinned_page.Given as goal

abbrev pub invariant-loop-place : goal.invariant-loop-place
invariant-loop-place g l = record {
  gathered : IsPageOf l.number (filter (is_holder l.facts.town l.caller Objects l.author l.board l.places) (take l.place-index l.places)) l.page.total l.page.places.items;
  few : l.page.total ≤ l.place-index;
  cost : l.steps ≤ l.fn.steps + (length l.places + l.place-index);
}
