use Rattle.std.proofs.Common.{◌≡◌, ◌-◌, ◌≤◌, ℕ, List, Some, take}
use Rattle.fedi_outside.proofs.calm_keepers.CalmKeeper.copy_of.Given as goal

abbrev pub invariant-records : goal.invariant-records
invariant-records g l = record {
  inside : l.place ≤ l.count;
  held : l.count ≡ (g.P.Keeper.shown l.initial.from).held;
  same : g.P.Keeper.shown l.from ≡ g.P.Keeper.shown l.initial.from;
  outside : g.P.Keeper.only_read l.initial.from l.from;
  copied : (kept : List (List ℕ)) → (g.P.Keeper.shown l.initial.from).records ≡ Some kept → l.records.items ≡ take l.place kept;
}

abbrev pub decreases-records : goal.decreases-records
decreases-records g l = l.count - l.place
