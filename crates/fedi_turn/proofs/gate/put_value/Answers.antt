use Rattle.std.proofs.Common.{◌∙◌, arith}
use Rattle.atomic_table.specs.Table.{step}
use mathlib.Core.Option.{none}
use Rattle.fedi_turn.proofs.GateSteps.{puts_back, ready}
use Rattle.fedi_turn.proofs.gate.put_value.Goals as goal

pub swap-requires : goal.swap-requires
swap-requires g c =
    let slots = c.args.gate.now.table_id.slots in
    let one = c.requires.table.1.0 in (
      c.exchange.ensures.0 ∙ c.requires.table.0,
      omega arith,
      puts_back g.V.Grows.list g.V.Grows.base _ _ _ _ _ c.args.content
          (step slots 0 c.if-peek-eq-CLAIMED.word 0 none) c.requires.table.1.1
          (ready g.V.Grows.list g.V.Grows.base _ _ _ c.args.content c.requires.slot
          c.exchange.ensures.3) c.requires.home,
    )
