use Rattle.std.proofs.Common.{◌≡◌, ◌≤◌, ◌-◌, ◌∷◌}
use Rattle.std.specs.Prelude.{IsTrue, is_some}
use Rattle.fedi_demo.specs.Demonstrating.{members, set_up}
use Rattle.fedi_town.specs.Histories.{town}
use Rattle.fedi_demo.proofs.demonstrating.settle.Given as goal

abbrev pub invariant-members : goal.invariant-members
invariant-members g l = record {
  within : l.count ≤ 8;
  history : l.core.history ≡ set_up ∷ members l.count;
  hosted : IsTrue (is_some (town l.core.history).host);
}

abbrev pub decreases-members : goal.decreases-members
decreases-members g l = 8 - l.count
