use Rattle.std.proofs.Common.{◌≡◌, ◌+◌, ◌≤◌, false, take}
use Rattle.std.specs.List.{list_any}
use Rattle.fedi_visible.specs.Places.{is_same_seen}
use Rattle.fedi_visible.proofs.places.is_any_same_seen.Given as goal

abbrev pub invariant-loop-place : goal.invariant-loop-place
invariant-loop-place g l =
    (list_any (is_same_seen l.facts.town l.caller l.which l.owner l.act) (take l.place l.facts.town.acts) ≡ false) × (l.steps ≤ l.fn.steps + l.place)
