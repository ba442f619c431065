use Rattle.std.proofs.Common.{ap, arith}
use Rattle.fedi_turn.proofs.GateSteps.{joins}
use Rattle.fedi_turn.proofs.gate.spend_seat.Goals as goal

pub join_seat-requires : goal.join_seat-requires
join_seat-requires g c =
    let one = c.requires.table.1.0 in
    (c.requires.table.0, c.requires.other, ap (λ m. m.1) c.requires.seat, omega arith, joins g.V.Grows.list g.V.Grows.base _ _ c.args.seat.now.me _ c.args.other.me)
