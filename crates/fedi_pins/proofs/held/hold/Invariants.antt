use Rattle.std.proofs.Common.{◌≡◌, ◌+◌, ◌≤◌, ℕ, List, take}
use Rattle.fedi_pins.specs.Held.{holder}
use Rattle.fedi_pins.specs.Maps.{place_in}
use Rattle.fedi_pins.proofs.held.hold.Given as goal

abbrev pub invariant-loop-place : goal.invariant-loop-place
invariant-loop-place g l = record {
  held : (id : List ℕ) → place_in l.held id ≡ holder l.facts.town l.caller l.listing l.author l.board (take l.place-index l.places) id;
  cost : l.steps ≤ l.fn.steps + l.place-index;
}
