use Rattle.std.proofs.Common.{◌≡◌, ◌+◌, ◌≤◌, Bool, take}
use Rattle.std.specs.Fn.{FnReturnsAt}
use Rattle.fedi_register.specs.Marks.{Decides}
use Rattle.fedi_town.specs.declared.act.Act.{Act}
use Rattle.fedi_visible.specs.Places.{places_from}
use Rattle.fedi_visible.proofs.pins.places_where.Given as goal

abbrev pub invariant-loop-place : goal.invariant-loop-place
invariant-loop-place g l = record {
  found : (p : Act → Bool) → Decides (FnReturnsAt g.F.Fn l.passes) p → l.places.items ≡ places_from p 0 (take l.place l.facts.town.acts);
  cost : l.steps ≤ l.fn.steps + l.place;
}
