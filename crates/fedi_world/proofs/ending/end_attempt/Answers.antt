use Rattle.std.proofs.Common.{Err, Some, ap, subst, sym}
use Rattle.fedi_log.specs.Claims.{HasClaimed}
use Rattle.fedi_world.specs.Ending.{EndsAt}
use Rattle.fedi_world.specs.Happenings.{limits}
use Rattle.fedi_world.specs.Scenes.{attempt_of}
use Rattle.fedi_world.specs.Standing.{pair_at}
use Rattle.fedi_world.proofs.Recorded.{ends_err, ends_ok}
use Rattle.fedi_world.proofs.ending.end_attempt.Goals as goal

pub returns-in-Ok-clause-ends : goal.returns-in-Ok-clause-ends
returns-in-Ok-clause-ends g c =
    let p = pair_at (attempt_of c.args.pending.now) in
    let has = subst (λ x. HasClaimed (Some c.args.number) c.args.seat.now.log p x) (sym c.claim_of-claim.ensures) c.requires.claimed in
    ends_ok g.P.Keeper c.args.number p c.args.came c.args.moment c.args.seat.now c.record-recorded.new.self c.in-Ok.field-0 (c.in-Ok.ensures.machine p has) (c.in-Ok.ensures.recorded p has)

pub returns-in-Err-clause-ends : goal.returns-in-Err-clause-ends
returns-in-Err-clause-ends g c =
    let p = pair_at (attempt_of c.args.pending.now) in
    let has = subst (λ x. HasClaimed (Some c.args.number) c.args.seat.now.log p x) (sym c.claim_of-claim.ensures) c.requires.claimed in
    subst (λ f. EndsAt {P = g.row.P.Denot} (limits g.P.Keeper.growth g.P.Keeper.room) g.P.Keeper.shown c.args.number p c.args.came c.args.moment c.args.seat.now c.record-recorded.new.self (Err f))
    (sym c.fault_of.ensures)
    (ends_err g.P.Keeper c.args.number p c.args.came c.args.moment c.args.seat.now c.record-recorded.new.self c.in-Err.fault (λ same. c.in-Err.ensures.calm (ap Err same))
    (c.in-Err.ensures.machine p has) (c.in-Err.ensures.recorded p has))
