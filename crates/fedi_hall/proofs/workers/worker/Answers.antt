use Rattle.std.proofs.Common.{◌∙◌, [], ap, refl}
use Rattle.fedi_logged.proofs.Attempts.{exchanged_none}
use Rattle.fedi_logged.specs.Attempts.{told_by}
use Rattle.fedi_outside.specs.Doors.{Coming, Rested, Served, Spoken, coming_by, spoken_by, with_row}
use Rattle.fedi_logged.specs.Turning.{setting_at}
use Rattle.fedi_hall.proofs.Working.{served_row, worked_first, worked_next}
use Rattle.fedi_hall.proofs.workers.worker.Goals as goal

pub loop-init : goal.loop-init
loop-init g c = (
  tt,
  tt,
  c.requires.ready,
  g.T.Turns.same_none c.args.turns.now,
  c.requires.waiting.0,
  c.requires.waiting.1,
  refl,
  worked_first (setting_at (g.T.Turns.by c.args.turns.now) (g.C.Clock.told c.args.clock.now) g.T.Turns.base) (g.T.Turns.seen c.args.turns.now) (g.W.Door.served c.args.bench.now.door)
      (told_by g.K.Link.asked g.K.Link.heard g.K.Link.link_faults c.args.bench.now.link),
)

pub loop-preserved-in-Line : goal.loop-preserved-in-Line
loop-preserved-in-Line g c =
    let line = c.in-Line.line in
    let then = c.session.new.channel in
    let came : Coming = coming_by g.W.L.Source.left g.W.L.Sink.sent line in
    let row : Spoken = spoken_by g.W.L.Source.left g.W.L.Sink.sent g.W.L.Source.read_faults g.W.L.Sink.write_faults came then in
    let same = c.loop.invariant.3 in (
      tt,
      tt,
      c.session.ensures.ready,
      g.T.Turns.same_both c.args.turns.now c.loop.turns c.session.new.turns same c.session.ensures.same,
      c.back.ensures.out,
      c.back.ensures.idle,
      c.back.ensures.faults ∙ c.in-Line.ensures.cause ∙ c.loop.invariant.6,
      worked_next g.T.Turns.base (g.C.Clock.told c.args.clock.now) (g.T.Turns.by c.args.turns.now) (g.T.Turns.by c.loop.turns)
          (g.T.Turns.seen c.args.turns.now) (g.T.Turns.seen c.loop.turns) (g.T.Turns.seen c.session.new.turns)
          (g.W.Door.served c.args.bench.now.door) (g.W.Door.served c.loop.bench.door) (g.W.Door.served c.back.new.self)
          (told_by g.K.Link.asked g.K.Link.heard g.K.Link.link_faults c.args.bench.now.link) (told_by g.K.Link.asked g.K.Link.heard g.K.Link.link_faults c.loop.bench.link)
          (told_by g.K.Link.asked g.K.Link.heard g.K.Link.link_faults c.loop.bench.link) [] (Served row)
          (g.T.Turns.same_by c.args.turns.now c.loop.turns same) c.loop.invariant.7
          (exchanged_none (told_by g.K.Link.asked g.K.Link.heard g.K.Link.link_faults c.loop.bench.link)) (
            refl,
            served_row (setting_at (g.T.Turns.by c.loop.turns) (g.C.Clock.told c.args.clock.now) g.T.Turns.base) (g.T.Turns.seen c.loop.turns) (g.T.Turns.seen c.session.new.turns) row
                (g.W.L.Source.read_faults line) (g.W.L.Sink.write_faults line) c.session.result
                c.in-Line.ensures.gives.3.1 c.in-Line.ensures.gives.3.2 c.in-Line.ensures.gives.3.0 c.session.ensures.causes c.session.ensures.serves,
          )
          (c.back.ensures.served came c.in-Line.ensures.gives.0 ∙ ap (with_row (Served row)) c.in-Line.ensures.served),
    )

pub loop-preserved : goal.loop-preserved
loop-preserved g c =
    let steps = c.deliver_one-step.ensures.steps in (
      tt,
      tt,
      c.deliver_one-step.ensures.ready,
      g.T.Turns.same_both c.args.turns.now c.loop.turns c.deliver_one-step.new.turns c.loop.invariant.3 c.deliver_one-step.ensures.same,
      c.rested.ensures.out,
      c.rested.ensures.idle,
      c.rested.ensures.faults ∙ c.in-Idle.ensures.cause ∙ c.loop.invariant.6,
      worked_next g.T.Turns.base (g.C.Clock.told c.args.clock.now) (g.T.Turns.by c.args.turns.now) (g.T.Turns.by c.loop.turns)
          (g.T.Turns.seen c.args.turns.now) (g.T.Turns.seen c.loop.turns) (g.T.Turns.seen c.deliver_one-step.new.turns)
          (g.W.Door.served c.args.bench.now.door) (g.W.Door.served c.loop.bench.door) (g.W.Door.served c.rested.new.self)
          (told_by g.K.Link.asked g.K.Link.heard g.K.Link.link_faults c.args.bench.now.link) (told_by g.K.Link.asked g.K.Link.heard g.K.Link.link_faults c.loop.bench.link)
          (told_by g.K.Link.asked g.K.Link.heard g.K.Link.link_faults c.deliver_one-step.new.link) steps.exchanges (Rested c.rest.result)
          (g.T.Turns.same_by c.args.turns.now c.loop.turns c.loop.invariant.3) c.loop.invariant.7 steps.exchanged (c.deliver_one-step.result, c.rest.ensures, steps.is)
          (c.rested.ensures.served ∙ ap (with_row (Rested c.rest.result)) c.in-Idle.ensures.served),
    )
