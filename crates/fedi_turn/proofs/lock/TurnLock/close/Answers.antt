use Rattle.std.proofs.Common.{◌≤◌, ◌∙◌, length, map, refl, ap, arith, Some}
use Rattle.std.proofs.lemmas.List.Elements.{All-pop}
use Rattle.fedi_turn.specs.Record.{idle_writer}
use Rattle.fedi_turn.specs.Turn.{IsIdle, view_of, gate_facts}
use Rattle.fedi_turn.proofs.TurnFacts.{seat_has, last_writer}
use Rattle.fedi_turn.proofs.LastLook.{all_continue, all_named}
use Rattle.fedi_turn.proofs.lock.TurnLock.close.Goals as goal

pub into_seat-seat-requires : goal.into_seat-seat-requires
into_seat-seat-requires g c =
    let idle = All-pop (IsIdle g.V.Grows c.args.self) c.args.passes.items c.pop.new.self.items (Some c.in-Some.first) c.in-Some.ensures.items c.requires in
    (_, idle.1.1)

pub wait_turn-value-requires-clause-table : goal.wait_turn-value-requires-clause-table
wait_turn-value-requires-clause-table g c =
    let idle = All-pop (IsIdle g.V.Grows c.args.self) c.args.passes.items c.pop.new.self.items (Some c.in-Some.first) c.in-Some.ensures.items c.requires in
    (c.into_seat-seat.ensures.0 ∙ idle.1.0, c.args.self.sizes.0)

pub wait_turn-value-requires-clause-seat : goal.wait_turn-value-requires-clause-seat
wait_turn-value-requires-clause-seat g c =
    let idle = All-pop (IsIdle g.V.Grows c.args.self) c.args.passes.items c.pop.new.self.items (Some c.in-Some.first) c.in-Some.ensures.items c.requires in
    seat_has c.in-Some.first.gate.views c.into_seat-seat.result.me _ c.into_seat-seat.ensures.2 c.into_seat-seat.ensures.3 idle.1.1

pub into_seat-requires : goal.into_seat-requires
into_seat-requires g c =
    let idle = All-pop (IsIdle g.V.Grows c.args.self) c.args.passes.items c.pop.new.self.items (Some c.in-Some.first) c.in-Some.ensures.items c.requires in
    (_, idle.1.3)

pub carry_reader-requires-clause-views : goal.carry_reader-requires-clause-views
carry_reader-requires-clause-views g c =
    let idle = All-pop (IsIdle g.V.Grows c.args.self) c.args.passes.items c.pop.new.self.items (Some c.in-Some.first) c.in-Some.ensures.items c.requires in
    let k = gate_facts g.V.Grows c.args.self in let xs = g.V.Grows.list c.wait_turn-value.result.value in
    let before = seat_has c.wait_turn-value.result.writer.views c.into_seat-writer.result.me _ c.into_seat-writer.ensures.2 c.into_seat-writer.ensures.3 c.wait_turn-value.ensures.home.1 in
    let his = seat_has c.in-Some.first.reader.views c.into_seat.result.me _ c.into_seat.ensures.2 c.into_seat.ensures.3 idle.1.3 in
    (idle_writer xs k.start k.seats, view_of c.in-Some.first, before, his, refl)

pub carry_all-requires-clause-gate : goal.carry_all-requires-clause-gate
carry_all-requires-clause-gate g c =
    let idle = All-pop (IsIdle g.V.Grows c.args.self) c.args.passes.items c.pop.new.self.items (Some c.in-Some.first) c.in-Some.ensures.items c.requires in
    c.wait_turn-value.ensures.table ∙ c.into_seat-seat.ensures.0 ∙ idle.1.0

pub carry_all-requires-clause-passes : goal.carry_all-requires-clause-passes
carry_all-requires-clause-passes g c =
    let idle = All-pop (IsIdle g.V.Grows c.args.self) c.args.passes.items c.pop.new.self.items (Some c.in-Some.first) c.in-Some.ensures.items c.requires in
    idle.0

pub look_around-requires-clause-writer : goal.look_around-requires-clause-writer
look_around-requires-clause-writer g c =
    let idle = All-pop (IsIdle g.V.Grows c.args.self) c.args.passes.items c.pop.new.self.items (Some c.in-Some.first) c.in-Some.ensures.items c.requires in
    let k = gate_facts g.V.Grows c.args.self in let xs = g.V.Grows.list c.wait_turn-value.result.value in
    let before = seat_has c.wait_turn-value.result.writer.views c.into_seat-writer.result.me _ c.into_seat-writer.ensures.2 c.into_seat-writer.ensures.3 c.wait_turn-value.ensures.home.1 in
    let his = seat_has c.in-Some.first.reader.views c.into_seat.result.me _ c.into_seat.ensures.2 c.into_seat.ensures.3 idle.1.3 in
    let last = last_writer xs k.start k.seats c.in-Some.first c.pop.new.self.items c.args.passes.items c.into_seat-writer.result.me c.into_seat.result.me c.carry_reader.new.writer.me c.carry_all.new.writer.me
    before his c.carry_reader.ensures.writer c.carry_all.ensures.writer c.in-Some.ensures.items in
    let w = record (idle_writer xs k.start k.seats) { carried = map view_of c.args.passes.items } in
    (w, last)

pub returns-clause-later : goal.returns-clause-later
returns-clause-later g c =
    let idle = All-pop (IsIdle g.V.Grows c.args.self) c.args.passes.items c.pop.new.self.items (Some c.in-Some.first) c.in-Some.ensures.items c.requires in
    let k = gate_facts g.V.Grows c.args.self in let xs = g.V.Grows.list c.wait_turn-value.result.value in
    let before = seat_has c.wait_turn-value.result.writer.views c.into_seat-writer.result.me _ c.into_seat-writer.ensures.2 c.into_seat-writer.ensures.3 c.wait_turn-value.ensures.home.1 in
    let his = seat_has c.in-Some.first.reader.views c.into_seat.result.me _ c.into_seat.ensures.2 c.into_seat.ensures.3 idle.1.3 in
    let last = last_writer xs k.start k.seats c.in-Some.first c.pop.new.self.items c.args.passes.items c.into_seat-writer.result.me c.into_seat.result.me c.carry_reader.new.writer.me c.carry_all.new.writer.me
    before his c.carry_reader.ensures.writer c.carry_all.ensures.writer c.in-Some.ensures.items in
    let w = record (idle_writer xs k.start k.seats) { carried = map view_of c.args.passes.items } in
    all_continue view_of g.V.Grows.name c.args.passes.items w (c.look_around.ensures.told w (ap (λ m. m.0) last)) refl

pub returns-clause-named : goal.returns-clause-named
returns-clause-named g c =
    let idle = All-pop (IsIdle g.V.Grows c.args.self) c.args.passes.items c.pop.new.self.items (Some c.in-Some.first) c.in-Some.ensures.items c.requires in
    let k = gate_facts g.V.Grows c.args.self in let xs = g.V.Grows.list c.wait_turn-value.result.value in
    let before = seat_has c.wait_turn-value.result.writer.views c.into_seat-writer.result.me _ c.into_seat-writer.ensures.2 c.into_seat-writer.ensures.3 c.wait_turn-value.ensures.home.1 in
    let his = seat_has c.in-Some.first.reader.views c.into_seat.result.me _ c.into_seat.ensures.2 c.into_seat.ensures.3 idle.1.3 in
    let last = last_writer xs k.start k.seats c.in-Some.first c.pop.new.self.items c.args.passes.items c.into_seat-writer.result.me c.into_seat.result.me c.carry_reader.new.writer.me c.carry_all.new.writer.me
    before his c.carry_reader.ensures.writer c.carry_all.ensures.writer c.in-Some.ensures.items in
    let w = record (idle_writer xs k.start k.seats) { carried = map view_of c.args.passes.items } in
    let seats = c.args.self.count.0 in let long = c.args.passes.ok.0 in
    let many : k.seats ≤ length c.args.passes.items = omega arith in
    all_named view_of g.V.Grows.name c.args.passes.items w (c.look_around.ensures.told w (ap (λ m. m.0) last)) refl many
