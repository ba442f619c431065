use Rattle.std.proofs.Common.{◌+◌, ◌*◌, ◌≤◌, length}
use Rattle.fedi_visible.proofs.Pages.{IsPageOf}
use Rattle.fedi_visible.proofs.Items.{places_before}
use Rattle.fedi_visible.proofs.places.page.Given as goal

abbrev pub invariant-loop-place : goal.invariant-loop-place
invariant-loop-place g l =
    let t = l.facts.town in
    record {
      gathered : IsPageOf l.number (places_before t l.caller l.which l.owner l.place) l.page.total l.page.places.items;
      few : l.page.total ≤ l.place;
      cost : l.steps ≤ l.fn.steps + l.place * (length t.acts + 1);
    }
