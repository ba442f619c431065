use Rattle.std.proofs.Common.{ap, arith}
use Rattle.fedi_turn.proofs.RecordSteps.{carry_asks}
use Rattle.fedi_turn.proofs.record.carry_reader.Goals as goal

pub join_seat-requires : goal.join_seat-requires
join_seat-requires g c =
    let one = c.requires.table.1 in let t = c.requires.views in
    (c.requires.table.0, c.requires.other, ap (λ m. m.1) t.3, omega arith, carry_asks g.V.Grows.name _ _ _ _ t.0 t.1 t.2 t.3 t.4)
