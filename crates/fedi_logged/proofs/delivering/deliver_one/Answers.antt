use Rattle.fedi_logged.specs.Turning.{setting_at}
use Rattle.fedi_logged.proofs.Attempting.{ended, ended_step, memory_step, none_step, tried_claimed}
use Rattle.fedi_logged.proofs.SessionLemmas.{now_of}
use Rattle.fedi_logged.proofs.delivering.deliver_one.Goals as goal

pub returns-in-Ok-None-clause-steps : goal.returns-in-Ok-None-clause-steps
returns-in-Ok-None-clause-steps g c =
    none_step (setting_at (g.T.Turns.by c.args.turns.now) (g.C.Clock.told c.args.clock.now)
    g.T.Turns.base) c.clamped-moment.result _ _ _ _ c.attempt_next-claimed.result.0
    (now_of _ c.now.result _ c.now.ensures c.clamped-moment.ensures)
    (rw (c.in-Ok-None.is, c.in-Ok-None.field-0-is) at c.attempt_next-claimed.ensures.tried)

pub returns-in-Err-clause-steps : goal.returns-in-Err-clause-steps
returns-in-Err-clause-steps g c =
    memory_step (setting_at (g.T.Turns.by c.args.turns.now) (g.C.Clock.told c.args.clock.now)
    g.T.Turns.base) c.clamped-moment.result _ _ _ _ c.attempt_next-claimed.result.0 c.in-Err.field-0
    (now_of _ c.now.result _ c.now.ensures c.clamped-moment.ensures)
    (rw c.in-Err.is at c.attempt_next-claimed.ensures.tried)

pub record-front-requires-clause-claimed : goal.record-front-requires-clause-claimed
record-front-requires-clause-claimed g c =
    tried_claimed (g.T.Turns.by c.args.turns.now) (g.T.Turns.by c.attempt_next-claimed.new.turns)
    c.clamped-moment.result _ _ _ _ c.attempt_next-claimed.result.0 c.in-Ok-Some.tried
    (g.T.Turns.same_by c.args.turns.now c.attempt_next-claimed.new.turns
    c.attempt_next-claimed.ensures.same)
    (rw (c.in-Ok-Some.is, c.in-Ok-Some.field-0-is) at c.attempt_next-claimed.ensures.tried)

pub returns-in-Ok-Some-clause-steps : goal.returns-in-Ok-Some-clause-steps
returns-in-Ok-Some-clause-steps g c =
    let w = setting_at (g.T.Turns.by c.args.turns.now) (g.C.Clock.told c.args.clock.now)
    g.T.Turns.base in
    rw c.after.ensures (ended_step w _ _ _ _ _ _ _ _ (ended w _ c.clamped-moment.result
    c.clamped.result c.later_of-moment.result _ _ _ _ _ c.attempt_next-claimed.result.0
    c.record-front.result.0 c.in-Ok-Some.tried c.record-front.result.1
    (g.T.Turns.same_by c.args.turns.now c.attempt_next-claimed.new.turns
    c.attempt_next-claimed.ensures.same)
    (now_of _ c.now.result _ c.now.ensures c.clamped-moment.ensures)
    (now_of _ c.now-in-Ok-Some.result _ c.now-in-Ok-Some.ensures c.clamped.ensures)
    c.later_of-moment.ensures.later c.later_of-moment.ensures.one
    (rw (c.in-Ok-Some.is, c.in-Ok-Some.field-0-is) at c.attempt_next-claimed.ensures.tried)
    c.record-front.ensures.recorded))

pub returns-in-Ok-Some-clause-same : goal.returns-in-Ok-Some-clause-same
returns-in-Ok-Some-clause-same g c =
    g.T.Turns.same_both _ _ _ c.attempt_next-claimed.ensures.same c.record-front.ensures.same
