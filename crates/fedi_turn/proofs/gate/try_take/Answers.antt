use Rattle.std.proofs.Common.{◌∙◌, arith, Some}
use Rattle.fedi_turn.proofs.GateSteps.{takes_out, first_slot}
use Rattle.fedi_turn.proofs.gate.try_take.Goals as goal

pub compare_exchange-requires : goal.compare_exchange-requires
compare_exchange-requires g c =
    let one = c.requires.table.1.0 in (
      c.requires.table.0,
      omega arith,
      takes_out g.V.Grows.list g.V.Grows.base _ _ _ _ _ c.requires.word c.requires.seat,
    )

pub exchange-requires : goal.exchange-requires
exchange-requires g c =
    let t = c.compare_exchange.ensures.2.2 c.if-compare_exchange-word.false in
    (c.compare_exchange.ensures.0 ∙ c.requires.table.0, (Some t.0, first_slot _ _ _ t.1))
