-- The history so far is that of the records before the index, and the keeper has not changed.
use Rattle.std.proofs.Common.{◌≡◌, ℕ}
use Rattle.fedi_outside.specs.Keepers.{PassesTime}
use Rattle.fedi_opening.specs.Opening.{IsRead}
use Rattle.fedi_opening.proofs.opening.open_history.Given as goal

abbrev pub invariant-loop-place : goal.invariant-loop-place
invariant-loop-place g l =
    let first = g.P.Keeper.shown l.fn.keeper in
    record {
      shown : g.P.Keeper.shown l.keeper ≡ first;
      outside : g.P.Keeper.only_read l.fn.keeper l.keeper;
      time : PassesTime first.records first.doubt (g.P.Keeper.crashes l.fn.keeper) (g.P.Keeper.crashes l.keeper);
      read : IsRead first.records l.place (g.S.Shelf.holding l.shelf).history;
    }
