use Rattle.std.specs.Prelude.{⊤}
use Rattle.fedi_sqlite.proofs.places.are_below.Given as goal

abbrev pub invariant-loop-row : goal.invariant-loop-row
invariant-loop-row l = ⊤
