use Rattle.std.proofs.Common.{◌∷◌, ◌+◌, ◌≤◌, length, slice_get}
use Rattle.std.specs.List.{flat_map}
use Rattle.json.specs.Token.{Token}
use Rattle.fedi_model.specs.Documents.{item_form}
use Rattle.fedi_collections.specs.Items.{tokens_at}
use Rattle.fedi_objects.specs.Writing.{Adds}
use Rattle.fedi_collections.proofs.items.write_items.Given as goal

abbrev pub invariant-loop-place : goal.invariant-loop-place
invariant-loop-place g l =
    let t = l.facts.town in
    Adds (Token.begin_array ∷ flat_map (λ place. tokens_at (item_form t l.which) (slice_get t.acts place.now)) l.yielded) l.fn.out l.out
    × (l.steps ≤ l.fn.steps + length l.yielded)
