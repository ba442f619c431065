use Rattle.std.proofs.Common.{sym, refl, subst, ap, ◌∙◌}
use Rattle.fedi_turn.specs.Record.{Continues, idle_writer, reader_view}
use Rattle.fedi_turn.specs.Gate.{writer_in}
use Rattle.fedi_turn.specs.Turn.{seen_of, gate_facts}
use Rattle.fedi_turn.proofs.TurnFacts.{seat_has, turn_told, turn_view}
use Rattle.fedi_turn.proofs.lock.TurnLock.take.Goals as goal

pub carry_reader-requires-clause-views : goal.carry_reader-requires-clause-views
carry_reader-requires-clause-views g c =
    let k = gate_facts g.V.Grows c.args.self.now in let xs = g.V.Grows.list c.wait_turn-value.result.value in (
      idle_writer xs k.start k.seats,
      reader_view c.args.pass.now.number (seen_of c.args.pass.now),
      seat_has c.wait_turn-value.result.writer.views c.into_seat-writer.result.me _ c.into_seat-writer.ensures.2 c.into_seat-writer.ensures.3 c.wait_turn-value.ensures.home.1,
      seat_has c.replace-reader.result.views c.into_seat.result.me _ c.into_seat.ensures.2 c.into_seat.ensures.3 (ap (λ b. b.views) c.replace-reader.ensures.value ∙ c.requires.3),
      refl,
    )

pub returns-clause-list : goal.returns-clause-list
returns-clause-list g c =
    let k = gate_facts g.V.Grows c.args.self.now in let xs = g.V.Grows.list c.wait_turn-value.result.value in
    let n = c.args.pass.now.number in let seen = seen_of c.args.pass.now in
    let before = seat_has c.wait_turn-value.result.writer.views c.into_seat-writer.result.me _ c.into_seat-writer.ensures.2 c.into_seat-writer.ensures.3 c.wait_turn-value.ensures.home.1 in
    let his = seat_has c.replace-reader.result.views c.into_seat.result.me _ c.into_seat.ensures.2 c.into_seat.ensures.3 (ap (λ b. b.views) c.replace-reader.ensures.value ∙ c.requires.3) in
    let told = turn_told g.V.Grows.name (idle_writer xs k.start k.seats) (reader_view n seen) c.into_seat-writer.result.me c.into_seat.result.me c.carry_reader.new.writer.me
    before his c.carry_reader.ensures.writer c.look_around.ensures.told in
    let view = turn_view g.V.Grows.name (idle_writer xs k.start k.seats) (reader_view n seen) c.into_seat-writer.result.me c.into_seat.result.me c.carry_reader.new.writer.me c.look_around.new.writer.me c.into_badge.result.views
    before his c.carry_reader.ensures.writer c.look_around.ensures.writer c.into_badge.ensures.2 in
    subst (λ l. Continues g.V.Grows.name n seen l) (sym (ap (λ vs. (writer_in vs).list) view)) told
