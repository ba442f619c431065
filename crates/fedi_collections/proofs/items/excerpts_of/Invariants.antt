use Rattle.std.proofs.Common.{◌≡◌, ◌+◌, ◌≤◌, length, map, slice_get}
use Rattle.std.specs.List.{flat_map}
use Rattle.fedi_model.specs.Documents.{embedded_form}
use Rattle.fedi_collections.specs.Items.{forms_at, excerpt_form}
use Rattle.fedi_collections.proofs.items.excerpts_of.Given as goal

abbrev pub invariant-loop-place : goal.invariant-loop-place
invariant-loop-place g l =
    let t = l.facts.town in
    (map excerpt_form l.excerpts.items ≡ flat_map (λ place. forms_at (embedded_form t) (slice_get t.acts place.now)) l.yielded)
    × (l.steps ≤ l.fn.steps + length l.yielded)
