use Rattle.std.proofs.Common.{Ok, [], ◌∷◌, ◌++◌, ap, arith, subst, sym, ◌∙◌}
use Rattle.fedi_world.specs.declared.event.Event.TheVariants.{Claim}
use Rattle.fedi_world.specs.Happenings.{AreCaused, limits}
use Rattle.fedi_world.specs.Taking.{TakesUp}
use Rattle.fedi_world.proofs.Causes.{among, beyond, err_memory, caused_memory, caused_ok, claim_nowhere, claim_there}
use Rattle.fedi_world.proofs.Spots.{index_is}
use Rattle.fedi_world.proofs.Taking.{happens_claimed, happens_idle, leaves_released, whole_claimed, whole_idle, whole_released}
use Rattle.fedi_world.proofs.world.World.claim.Goals as goal

pub invariant_of-self-in-Ok-Some : goal.invariant_of-self-in-Ok-Some
invariant_of-self-in-Ok-Some g c =
    let w = c.self.inside in
    let taken = subst (λ o. TakesUp {P = g.row.P.Denot} c.args.server c.len-attempt.result c.len-request.result w.moment c.index_mut-seat.result.now c.take_up.new.seat (Ok o)) c.in-Ok-Some.field-0-is c.in-Ok-Some.ensures in
    let at = index_is w.seats.items c.args.server c.index_mut-seat.result.now (let n = c.if-number-len.false in let e = c.len.ensures in omega (arith, n, e)) c.index_mut-seat.ensures.value in
    whole_claimed w.moment w.seats.items w.requests.items c.push_reserved.new.self.items w.replies.items w.attempts.items c.push_reserved-in-Ok-Some.new.self.items
    c.args.server c.index_mut-seat.result.now c.take_up.new.seat c.in-Ok-Some.pending c.in-Ok-Some.packet c.len-attempt.result c.len-request.result
    (let e = c.len-attempt.ensures in omega (arith, e)) (let e = c.len-request.ensures in omega (arith, e)) c.self.invariant at taken
    (c.push_reserved.ensures.items ∙ ap (λ xs. xs ++ c.in-Ok-Some.packet ∷ []) c.in_ok-make_room.ensures.requests) (c.push_reserved-in-Ok-Some.ensures.items ∙ ap (λ xs. xs ++ c.in-Ok-Some.pending ∷ []) c.in_ok-make_room.ensures.attempts)

pub returns-in-Ok-Some-clause-happened : goal.returns-in-Ok-Some-clause-happened
returns-in-Ok-Some-clause-happened g c =
    let w = c.self.inside in
    let taken = subst (λ o. TakesUp {P = g.row.P.Denot} c.args.server c.len-attempt.result c.len-request.result w.moment c.index_mut-seat.result.now c.take_up.new.seat (Ok o)) c.in-Ok-Some.field-0-is c.in-Ok-Some.ensures in
    let at = index_is w.seats.items c.args.server c.index_mut-seat.result.now (let n = c.if-number-len.false in let e = c.len.ensures in omega (arith, n, e)) c.index_mut-seat.ensures.value in
    happens_claimed (limits g.P.Keeper.growth g.P.Keeper.room) g.P.Keeper.shown w.moment w.seats.items w.requests.items c.push_reserved.new.self.items w.replies.items w.attempts.items
    c.push_reserved-in-Ok-Some.new.self.items c.args.server c.len-attempt.result c.len-request.result c.index_mut-seat.result.now c.take_up.new.seat c.in-Ok-Some.pending c.in-Ok-Some.packet
    c.args.self.now c.self.view_is (let e = c.len-attempt.ensures in omega (arith, e)) (let e = c.len-request.ensures in omega (arith, e)) c.self.invariant at taken
    (c.push_reserved.ensures.items ∙ ap (λ xs. xs ++ c.in-Ok-Some.packet ∷ []) c.in_ok-make_room.ensures.requests) (c.push_reserved-in-Ok-Some.ensures.items ∙ ap (λ xs. xs ++ c.in-Ok-Some.pending ∷ []) c.in_ok-make_room.ensures.attempts)

pub invariant_of-self-in-Ok-None : goal.invariant_of-self-in-Ok-None
invariant_of-self-in-Ok-None g c =
    let w = c.self.inside in
    let taken = subst (λ o. TakesUp {P = g.row.P.Denot} c.args.server c.len-attempt.result c.len-request.result w.moment c.index_mut-seat.result.now c.take_up.new.seat (Ok o)) c.in-Ok-None.field-0-is c.in-Ok-None.ensures in
    let at = index_is w.seats.items c.args.server c.index_mut-seat.result.now (let n = c.if-number-len.false in let e = c.len.ensures in omega (arith, n, e)) c.index_mut-seat.ensures.value in
    whole_idle w.moment w.seats.items w.requests.items c.make_room.new.requests.items w.replies.items w.attempts.items c.make_room.new.attempts.items
    c.args.server c.index_mut-seat.result.now c.take_up.new.seat c.self.invariant (record { at = at; idle = taken })
    c.in_ok-make_room.ensures.requests c.in_ok-make_room.ensures.attempts

pub returns-in-Ok-None-clause-happened : goal.returns-in-Ok-None-clause-happened
returns-in-Ok-None-clause-happened g c =
    let w = c.self.inside in
    let taken = subst (λ o. TakesUp {P = g.row.P.Denot} c.args.server c.len-attempt.result c.len-request.result w.moment c.index_mut-seat.result.now c.take_up.new.seat (Ok o)) c.in-Ok-None.field-0-is c.in-Ok-None.ensures in
    let at = index_is w.seats.items c.args.server c.index_mut-seat.result.now (let n = c.if-number-len.false in let e = c.len.ensures in omega (arith, n, e)) c.index_mut-seat.ensures.value in
    happens_idle (limits g.P.Keeper.growth g.P.Keeper.room) g.P.Keeper.shown w.moment w.seats.items w.requests.items c.make_room.new.requests.items w.replies.items w.attempts.items
    c.make_room.new.attempts.items c.args.server c.index_mut-seat.result.now c.take_up.new.seat c.args.self.now c.self.view_is c.self.invariant (record { at = at; idle = taken })
    c.in_ok-make_room.ensures.requests c.in_ok-make_room.ensures.attempts

pub invariant_of-self-in-Err : goal.invariant_of-self-in-Err
invariant_of-self-in-Err g c =
    let w = c.self.inside in
    let at = index_is w.seats.items c.args.server c.index_mut-seat.result.now (let n = c.if-number-len.false in let e = c.len.ensures in omega (arith, n, e)) c.index_mut-seat.ensures.value in
    whole_released w.moment w.seats.items w.requests.items c.make_room.new.requests.items w.replies.items w.attempts.items c.make_room.new.attempts.items
    c.args.server c.index_mut-seat.result.now c.take_up.new.seat c.self.invariant at c.len-attempt.result (let e = c.len-attempt.ensures in omega (arith, e)) c.in-Err.ensures
    c.in_ok-make_room.ensures.requests c.in_ok-make_room.ensures.attempts

pub returns-in-Err-clause-left : goal.returns-in-Err-clause-left
returns-in-Err-clause-left g c =
    let w = c.self.inside in
    let at = index_is w.seats.items c.args.server c.index_mut-seat.result.now (let n = c.if-number-len.false in let e = c.len.ensures in omega (arith, n, e)) c.index_mut-seat.ensures.value in
    leaves_released (limits g.P.Keeper.growth g.P.Keeper.room) g.P.Keeper.shown w.moment w.seats.items w.requests.items c.make_room.new.requests.items w.replies.items w.attempts.items
    c.make_room.new.attempts.items c.args.server c.index_mut-seat.result.now c.take_up.new.seat c.args.self.now c.self.view_is at c.in-Err.ensures.changes
    c.in_ok-make_room.ensures.requests c.in_ok-make_room.ensures.attempts

pub returns-in-Ok-Some-clause-causes : goal.returns-in-Ok-Some-clause-causes
returns-in-Ok-Some-clause-causes g c =
    let w = c.self.inside in
    caused_ok c.args.self.now.world _ _ (claim_there c.args.self.now.world c.args.server
    (among w.moment w.seats.items w.requests.items w.replies.items w.attempts.items c.args.server c.args.self.now.world (ap (λ s. s.world) c.self.view_is)
    (let n = c.if-number-len.false in let e = c.len.ensures in omega (arith, n, e))))

pub returns-in-Ok-None-clause-causes : goal.returns-in-Ok-None-clause-causes
returns-in-Ok-None-clause-causes g c =
    let w = c.self.inside in
    caused_ok c.args.self.now.world _ _ (claim_there c.args.self.now.world c.args.server
    (among w.moment w.seats.items w.requests.items w.replies.items w.attempts.items c.args.server c.args.self.now.world (ap (λ s. s.world) c.self.view_is)
    (let n = c.if-number-len.false in let e = c.len.ensures in omega (arith, n, e))))

pub returns-in-Err-clause-causes : goal.returns-in-Err-clause-causes
returns-in-Err-clause-causes g c =
    let w = c.self.inside in
    caused_memory c.args.self.now.world _ (claim_there c.args.self.now.world c.args.server
    (among w.moment w.seats.items w.requests.items w.replies.items w.attempts.items c.args.server c.args.self.now.world (ap (λ s. s.world) c.self.view_is)
    (let n = c.if-number-len.false in let e = c.len.ensures in omega (arith, n, e))))

pub returns-then-number-len-clause-causes : goal.returns-then-number-len-clause-causes
returns-then-number-len-clause-causes g c =
    let w = c.self.inside in
    claim_nowhere c.args.self.now.world c.args.server
    (beyond w.moment w.seats.items w.requests.items w.replies.items w.attempts.items c.args.server c.args.self.now.world (ap (λ s. s.world) c.self.view_is)
    (let n = c.if-number-len.true in let e = c.len.ensures in omega (arith, n, e)))

pub returns-in_err-make_room-clause-causes : goal.returns-in_err-make_room-clause-causes
returns-in_err-make_room-clause-causes g c =
    let w = c.self.inside in
    subst (λ r. AreCaused c.args.self.now.world (Claim c.args.server) r) (sym (err_memory c.from_residual.result c.from_residual.ensures.0 c.from_residual.ensures.1))
    (caused_memory c.args.self.now.world (Claim c.args.server) (claim_there c.args.self.now.world c.args.server
    (among w.moment w.seats.items w.requests.items w.replies.items w.attempts.items c.args.server c.args.self.now.world (ap (λ s. s.world) c.self.view_is)
    (let n = c.if-number-len.false in let e = c.len.ensures in omega (arith, n, e)))))
