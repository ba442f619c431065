use Rattle.std.proofs.Common.{arith}
use Rattle.fedi_turn.proofs.GateSteps.{marks}
use Rattle.fedi_turn.proofs.gate.change_word.Goals as goal

pub compare_exchange-requires : goal.compare_exchange-requires
compare_exchange-requires g c =
    let one = c.requires.table.1.0 in (
      c.requires.table.0,
      omega arith,
      marks g.V.Grows.list g.V.Grows.base _ _ _ _ _ _ c.requires.new c.requires.seat,
    )
