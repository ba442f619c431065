use Rattle.std.proofs.Common.{refl, ap, ◌∙◌}
use Rattle.fedi_turn.specs.Record.{idle_writer, reader_view, take_in}
use Rattle.fedi_turn.specs.Turn.{turn_list, gate_facts}
use Rattle.fedi_turn.proofs.TurnFacts.{seat_has}
use Rattle.fedi_turn.proofs.lock.TurnLock.give.Goals as goal
use Rattle.fedi_turn.proofs.lock.TurnLock.give.Goals.{then-front-seen, else-front-seen}

pub append_new-requires-clause-writer : goal.append_new-requires-clause-writer
append_new-requires-clause-writer g c =
    let k = gate_facts g.V.Grows c.args.self.now in let r = reader_view c.args.pass.now.number c.requires.turn.3.0 in (
      take_in (idle_writer (turn_list c.args.held) k.start k.seats) r,
      r,
      seat_has c.args.held.writer.views c.into_seat-writer.result.me _ c.into_seat-writer.ensures.2 c.into_seat-writer.ensures.3 c.requires.turn.3.1,
      refl,
      c.requires.grows,
    )

pub return_number-reader-requires-clause-writer : goal.return_number-reader-requires-clause-writer
return_number-reader-requires-clause-writer g c =
    let k = gate_facts g.V.Grows c.args.self.now in let r = reader_view c.args.pass.now.number c.requires.turn.3.0 in
    let w = take_in (idle_writer (turn_list c.args.held) k.start k.seats) r in
    let is = seat_has c.args.held.writer.views c.into_seat-writer.result.me _ c.into_seat-writer.ensures.2 c.into_seat-writer.ensures.3 c.requires.turn.3.1 in
    elim c.if-front-seen.branch [
      | then-front-seen b ↦ (record w { list = g.V.Grows.list c.args.held.value }, r, ap (λ s. s.me) b.writer-is ∙ b.append_new.ensures.writer w (ap (λ m. m.0) is), refl)
      | else-front-seen b ↦ (w, r, ap (λ s. s.me) b.writer-is ∙ is, refl)
    ]
