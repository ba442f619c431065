use Rattle.fedi_turn.specs.Turn.{view_of}
use Rattle.fedi_turn.proofs.TurnFacts.{seat_has}
use Rattle.fedi_turn.proofs.closing.carry_pass.Goals as goal

pub carry_reader-requires-clause-views : goal.carry_reader-requires-clause-views
carry_reader-requires-clause-views g c =
    let t = c.requires.writer in (
      t.0,
      view_of c.args.pass,
      t.1,
      seat_has c.args.pass.reader.views c.into_seat-2.result.me _ c.into_seat-2.ensures.2 c.into_seat-2.ensures.3 c.requires.pass.3,
      t.2,
    )
