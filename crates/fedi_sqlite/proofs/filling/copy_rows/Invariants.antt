use Rattle.std.proofs.Common.{◌≡◌, ◌-◌, ◌≤◌, ℕ, List, []}
use Rattle.sqlite.specs.Held.{state}
use Rattle.fedi_sqlite.specs.Kept.{IsAdding}
use Rattle.fedi_sqlite.specs.Tables.{IsSteady}
use Rattle.fedi_sqlite.proofs.FillingSteps.{HasCopied}
use Rattle.fedi_sqlite.proofs.filling.copy_rows.Given as goal

abbrev pub invariant-records : goal.invariant-records
invariant-records g l = record {
  inside : l.place ≤ l.count;
  held : l.count ≡ (g.P.Keeper.shown l.initial.from).held;
  same_reference : l.within.conn.ghost_name ≡ l.initial.within.conn.ghost_name;
  same : g.P.Keeper.shown l.from ≡ g.P.Keeper.shown l.initial.from;
  outside : g.P.Keeper.only_read l.initial.from l.from;
  copied : IsSteady g.S.Store → (kept : List (List ℕ)) → IsAdding kept [] (state g.S.Store l.initial.within.conn.now)
      → HasCopied (g.P.Keeper.shown l.initial.from).records kept (state g.S.Store l.within.conn.now) l.place;
}

abbrev pub decreases-records : goal.decreases-records
decreases-records g l = l.count - l.place
