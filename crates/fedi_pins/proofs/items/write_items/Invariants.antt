use Rattle.std.proofs.Common.{[], ◌∷◌, ◌+◌, ◌≤◌, length}
use Rattle.std.specs.List.{flat_map}
use Rattle.json.specs.Token.{Token}
use Rattle.fedi_objects.specs.Writing.{Adds}
use Rattle.fedi_pins.specs.Held.{item_at}
use Rattle.fedi_pins.proofs.items.write_items.Given as goal

abbrev pub invariant-loop-place : goal.invariant-loop-place
invariant-loop-place g l =
    Adds (Token.begin_array ∷ flat_map (λ place. Token.string (item_at l.facts.town l.listing place.now) ∷ []) l.yielded) l.fn.out l.out
    × (l.steps ≤ l.fn.steps + length l.yielded)
