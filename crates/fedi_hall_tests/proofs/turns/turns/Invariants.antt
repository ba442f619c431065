use Rattle.fedi_turn.specs.Turn.{IsIdle}
use Rattle.fedi_hall_tests.specs.contracts.tally.TallyGrows.TheImpl.{ghosts}
use Rattle.fedi_hall_tests.proofs.turns.turns.Given as goal

abbrev pub invariant-loop : goal.invariant-loop
invariant-loop g l = IsIdle ghosts l.lock l.pass
