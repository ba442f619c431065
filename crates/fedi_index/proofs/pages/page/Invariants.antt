use Rattle.std.proofs.Common.{◌≡◌, ◌+◌, ◌≤◌, take}
use Rattle.std.specs.Prelude.{filter}
use Rattle.fedi_visible.proofs.Pages.{IsPageOf}
use Rattle.fedi_visible.specs.Places.{is_listed}
use Rattle.fedi_index.proofs.pages.page.Given as goal

abbrev pub invariant-loop-place : goal.invariant-loop-place
invariant-loop-place g l = record {
  gathered : IsPageOf l.number (filter (is_listed l.facts.town l.caller l.which l.owner) (take l.place-index l.candidates)) l.page.total l.page.places.items;
  few : l.page.total ≤ l.place-index;
  cost : l.steps ≤ l.fn.steps + l.place-index;
  reader : l.reader ≡ record { town = l.facts.town; caller = l.caller };
}
