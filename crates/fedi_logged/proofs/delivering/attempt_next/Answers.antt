use Rattle.std.proofs.Common.{◌∙◌, inr}
use Rattle.fedi_logged.proofs.Attempting.{attempted, attempted_claimed, given_up, taken_lacking}
use Rattle.fedi_logged.proofs.Attempting.{taken_none, tried_next, up_claimed}
use Rattle.fedi_logged.proofs.delivering.attempt_next.Goals as goal

pub returns-in-Ok-None-clause-tried : goal.returns-in-Ok-None-clause-tried
returns-in-Ok-None-clause-tried g c =
    taken_none (g.T.Turns.by c.args.turns.now) c.args.moment _ _ _ _
    (rw (c.in-Ok-None.is, c.in-Ok-None.field-0-is) at c.take_up-front.ensures.taken)

pub returns-in-Err-clause-tried : goal.returns-in-Err-clause-tried
returns-in-Err-clause-tried g c =
    taken_lacking (g.T.Turns.by c.args.turns.now) c.args.moment _ _ _ _ c.in-Err.field-0
    (rw c.in-Err.is at c.take_up-front.ensures.taken)

pub attempt-requires-clause-claimed : goal.attempt-requires-clause-claimed
attempt-requires-clause-claimed g c =
    up_claimed (g.T.Turns.by c.args.turns.now) _ c.args.moment _ _ c.take_up-front.result.0
    c.in-Ok-Some.sending
    (g.T.Turns.same_by c.args.turns.now c.take_up-front.new.self c.take_up-front.ensures.same)
    (rw (c.in-Ok-Some.is, c.in-Ok-Some.field-0-is) at c.take_up-front.ensures.taken)

pub release-requires-clause-claimed : goal.release-requires-clause-claimed
release-requires-clause-claimed g c =
    let first = g.T.Turns.same_by c.args.turns.now c.take_up-front.new.self
    c.take_up-front.ensures.same in
    let then = g.T.Turns.same_by c.take_up-front.new.self c.attempt.new.turns
    c.attempt.ensures.same in
    let o = attempted (g.T.Turns.by c.args.turns.now) _ c.args.moment _ _ _
    c.take_up-front.result.0 c.in-Ok-Some.sending _ _ c.attempt.result first
    (rw (c.in-Ok-Some.is, c.in-Ok-Some.field-0-is) at c.take_up-front.ensures.taken)
    c.attempt.ensures.goes c.attempt.ensures.came in
    attempted_claimed (g.T.Turns.by c.args.turns.now) _ c.args.moment _ _ c.take_up-front.result.0
    c.in-Ok-Some.sending _ _ _ (then ∙ first) o

pub returns-in_default-clause-tried : goal.returns-in_default-clause-tried
returns-in_default-clause-tried g c =
    let first = g.T.Turns.same_by c.args.turns.now c.take_up-front.new.self
    c.take_up-front.ensures.same in
    let then = g.T.Turns.same_by c.take_up-front.new.self c.attempt.new.turns
    c.attempt.ensures.same in
    let o = attempted (g.T.Turns.by c.args.turns.now) _ c.args.moment _ _ _
    c.take_up-front.result.0 c.in-Ok-Some.sending _ _ c.attempt.result first
    (rw (c.in-Ok-Some.is, c.in-Ok-Some.field-0-is) at c.take_up-front.ensures.taken)
    c.attempt.ensures.goes c.attempt.ensures.came in
    inr (given_up (g.T.Turns.by c.args.turns.now) _ c.args.moment _ _ _ c.take_up-front.result.0
    c.in-Ok-Some.sending _ _ _ (then ∙ first) (rw c.in_default.is at o) c.release.ensures.released)

pub returns-clause-tried : goal.returns-clause-tried
returns-clause-tried g c =
    let first = g.T.Turns.same_by c.args.turns.now c.take_up-front.new.self
    c.take_up-front.ensures.same in
    let o = attempted (g.T.Turns.by c.args.turns.now) _ c.args.moment _ _ _
    c.take_up-front.result.0 c.in-Ok-Some.sending _ _ c.attempt.result first
    (rw (c.in-Ok-Some.is, c.in-Ok-Some.field-0-is) at c.take_up-front.ensures.taken)
    c.attempt.ensures.goes c.attempt.ensures.came in
    tried_next (g.T.Turns.by c.args.turns.now) c.args.moment _ _ c.take_up-front.result.0
    c.in-Ok-Some.sending _ _ c.in-Ok.came (rw c.in-Ok.is at o)

pub returns-in_default-clause-same : goal.returns-in_default-clause-same
returns-in_default-clause-same g c =
    g.T.Turns.same_both _ _ _ (g.T.Turns.same_both _ _ _ c.take_up-front.ensures.same
    c.attempt.ensures.same) c.release.ensures.same

pub returns-clause-same : goal.returns-clause-same
returns-clause-same g c =
    g.T.Turns.same_both _ _ _ c.take_up-front.ensures.same c.attempt.ensures.same
