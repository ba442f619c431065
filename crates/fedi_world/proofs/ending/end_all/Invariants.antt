use Rattle.std.proofs.Common.{◌≡◌}
use Rattle.std.specs.Prelude.{map}
use Rattle.fedi_world.specs.Ending.{GivesBack}
use Rattle.fedi_world.specs.Scenes.{attempt_of, claim_in}
use Rattle.fedi_world.specs.Standing.{IsTied}
use Rattle.fedi_world.proofs.Crashed.{over_first}
use Rattle.fedi_world.proofs.ending.end_all.Given as goal

abbrev pub invariant-loop-number : goal.invariant-loop-number
invariant-loop-number g l = record {
  attempts : l.attempts ≡ over_first l.server l.number l.fn.attempts;
  tied : IsTied (map attempt_of l.attempts) (map claim_in l.attempts) l.server l.seat.log;
  seat : GivesBack l.fn.seat l.seat;
}
