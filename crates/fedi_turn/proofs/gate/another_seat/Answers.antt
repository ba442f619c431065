use Rattle.std.proofs.Common.{arith}
use Rattle.fedi_turn.proofs.GateSteps.{splits}
use Rattle.fedi_turn.proofs.gate.another_seat.Goals as goal

pub split_seat-requires : goal.split_seat-requires
split_seat-requires g c =
    let one = c.requires.table.1.0 in (c.requires.table.0, omega arith, splits g.V.Grows.list g.V.Grows.base _ _ _ c.requires.seat)
