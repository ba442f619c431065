use Rattle.std.proofs.Common.{◌<◌, ◌≡◌, ◌++◌, Err, IfErr, Ok, ap, arith, drop, length, refl, subst, sym, take, ◌∙◌}
use Rattle.std.specs.Prelude.{map, slice_set}
use Rattle.fedi_world.specs.declared.event.Event.TheVariants.{Crash}
use Rattle.fedi_world.specs.declared.event.Happened.TheVariants.{Crashed}
use Rattle.fedi_world.specs.Ending.{over_at}
use Rattle.fedi_world.specs.Happenings.{AreCaused, Leaves, limits}
use Rattle.fedi_world.specs.Scenes.{attempt_of, claim_in, scene_of}
use Rattle.fedi_world.specs.Standing.{IsTied}
use Rattle.fedi_world.proofs.Causes.{beyond, caused_memory, caused_ok, crash_nowhere, err_memory}
use Rattle.fedi_world.proofs.Crashed.{crashed_causes, happens_crashed, later_over, leaves_crashed, opened_crash, unopened_crash, whole_crashed}
use Rattle.fedi_world.proofs.Spots.{index_is}
use Rattle.fedi_world.proofs.world.World.crash.Goals as goal

pub end_all-requires : goal.end_all-requires
end_all-requires g c =
    let w = c.self.inside in
    let n = c.args.server in
    let m = c.index_mut-seat.result.now in
    let below : n < length w.seats.items = let e = c.if-number-len.false in let l = c.len.ensures in omega (arith, e, l) in
    let at = index_is w.seats.items n m below c.index_mut-seat.ensures.value in
    record { tied = subst (λ xs. IsTied (map attempt_of xs) (map claim_in xs) n m.log) (sym c.deref_mut.ensures.value) (c.self.invariant.tied n m at) }

pub returns-then-number-len-clause-causes : goal.returns-then-number-len-clause-causes
returns-then-number-len-clause-causes g c =
    let w = c.self.inside in
    crash_nowhere c.args.self.now.world c.args.server (beyond w.moment w.seats.items w.requests.items w.replies.items w.attempts.items c.args.server c.args.self.now.world (ap (λ s. s.world) c.self.view_is) (let n = c.if-number-len.true in let e = c.len.ensures in omega (arith, n, e)))

pub invariant_of-self : goal.invariant_of-self
invariant_of-self g c =
    let w = c.self.inside in
    let n = c.args.server in
    let m = c.index_mut-seat.result.now in
    let below : n < length w.seats.items = let e = c.if-number-len.false in let l = c.len.ensures in omega (arith, e, l) in
    let at = index_is w.seats.items n m below c.index_mut-seat.ensures.value in
    let ys = c.end_all.new.attempts in
    let later = take w.attempts.len (ys ++ drop (length ys) w.attempts.items) in
    let later_is = later_over w.attempts.items c.deref_mut.result.now ys w.attempts.len n w.attempts.ok.0 c.deref_mut.ensures.value c.end_all.ensures.ended in
    let over_all = c.end_all.ensures.ended ∙ ap (λ xs. map (over_at n) xs) c.deref_mut.ensures.value in
    let mid = c.end_all.new.seat in
    let end = ap (λ p. (g.P.Keeper.shown p).end) c.end_all.ensures.seat.changes.keeper in
    let crash = unopened_crash g.P.Keeper.shown w.seats.items w.attempts.items later n m mid mid at later_is c.end_all.ensures.seat.changes.history end c.end_all.ensures.seat.history ys over_all c.end_all.ensures.tied refl refl refl in
    whole_crashed g.P.Keeper.shown w.moment w.seats.items w.requests.items w.replies.items w.attempts.items later n m mid c.self.invariant crash

pub returns-in_err-blank-clause-left : goal.returns-in_err-blank-clause-left
returns-in_err-blank-clause-left g c =
    let w = c.self.inside in
    let n = c.args.server in
    let m = c.index_mut-seat.result.now in
    let below : n < length w.seats.items = let e = c.if-number-len.false in let l = c.len.ensures in omega (arith, e, l) in
    let at = index_is w.seats.items n m below c.index_mut-seat.ensures.value in
    let ys = c.end_all.new.attempts in
    let later = take w.attempts.len (ys ++ drop (length ys) w.attempts.items) in
    let later_is = later_over w.attempts.items c.deref_mut.result.now ys w.attempts.len n w.attempts.ok.0 c.deref_mut.ensures.value c.end_all.ensures.ended in
    let over_all = c.end_all.ensures.ended ∙ ap (λ xs. map (over_at n) xs) c.deref_mut.ensures.value in
    let mid = c.end_all.new.seat in
    let end = ap (λ p. (g.P.Keeper.shown p).end) c.end_all.ensures.seat.changes.keeper in
    let crash = unopened_crash g.P.Keeper.shown w.seats.items w.attempts.items later n m mid mid at later_is c.end_all.ensures.seat.changes.history end c.end_all.ensures.seat.history ys over_all c.end_all.ensures.tied refl refl refl in
    subst (λ r. IfErr r (λ fault. Leaves (limits g.P.Keeper.growth g.P.Keeper.room) fault c.args.self.now (Crash n) (scene_of g.P.Keeper.shown w.moment (slice_set w.seats.items n mid) w.requests.items w.replies.items later))) (sym (err_memory c.from_residual.result c.from_residual.ensures.0 c.from_residual.ensures.1))
    (leaves_crashed (limits g.P.Keeper.growth g.P.Keeper.room) g.P.Keeper.shown w.moment w.seats.items w.requests.items w.replies.items w.attempts.items later n m mid c.args.self.now c.self.view_is crash)

pub returns-in_err-blank-clause-causes : goal.returns-in_err-blank-clause-causes
returns-in_err-blank-clause-causes g c =
    let w = c.self.inside in
    let n = c.args.server in
    let m = c.index_mut-seat.result.now in
    let below : n < length w.seats.items = let e = c.if-number-len.false in let l = c.len.ensures in omega (arith, e, l) in
    let at = index_is w.seats.items n m below c.index_mut-seat.ensures.value in
    subst (λ r. AreCaused c.args.self.now.world (Crash n) r) (sym (err_memory c.from_residual.result c.from_residual.ensures.0 c.from_residual.ensures.1))
    (caused_memory c.args.self.now.world (Crash n) (crashed_causes w.moment w.seats.items w.requests.items w.replies.items w.attempts.items n c.args.self.now.world (ap (λ s. s.world) c.self.view_is) below))

pub invariant_of-self-in_err-reopen : goal.invariant_of-self-in_err-reopen
invariant_of-self-in_err-reopen g c =
    let w = c.self.inside in
    let n = c.args.server in
    let m = c.index_mut-seat.result.now in
    let below : n < length w.seats.items = let e = c.if-number-len.false in let l = c.len.ensures in omega (arith, e, l) in
    let at = index_is w.seats.items n m below c.index_mut-seat.ensures.value in
    let ys = c.end_all.new.attempts in
    let later = take w.attempts.len (ys ++ drop (length ys) w.attempts.items) in
    let later_is = later_over w.attempts.items c.deref_mut.result.now ys w.attempts.len n w.attempts.ok.0 c.deref_mut.ensures.value c.end_all.ensures.ended in
    let over_all = c.end_all.ensures.ended ∙ ap (λ xs. map (over_at n) xs) c.deref_mut.ensures.value in
    let mid = c.end_all.new.seat in
    let end = ap (λ p. (g.P.Keeper.shown p).end) c.end_all.ensures.seat.changes.keeper in
    let crash = unopened_crash g.P.Keeper.shown w.seats.items w.attempts.items later n m mid c.reopen.new.self at later_is c.end_all.ensures.seat.changes.history end c.end_all.ensures.seat.history ys over_all c.end_all.ensures.tied c.in_err-reopen.ensures.history c.in_err-reopen.ensures.end c.in_err-reopen.ensures.lacking in
    whole_crashed g.P.Keeper.shown w.moment w.seats.items w.requests.items w.replies.items w.attempts.items later n m c.reopen.new.self c.self.invariant crash

pub returns-in_err-reopen-clause-left : goal.returns-in_err-reopen-clause-left
returns-in_err-reopen-clause-left g c =
    let w = c.self.inside in
    let n = c.args.server in
    let m = c.index_mut-seat.result.now in
    let below : n < length w.seats.items = let e = c.if-number-len.false in let l = c.len.ensures in omega (arith, e, l) in
    let at = index_is w.seats.items n m below c.index_mut-seat.ensures.value in
    let ys = c.end_all.new.attempts in
    let later = take w.attempts.len (ys ++ drop (length ys) w.attempts.items) in
    let later_is = later_over w.attempts.items c.deref_mut.result.now ys w.attempts.len n w.attempts.ok.0 c.deref_mut.ensures.value c.end_all.ensures.ended in
    let over_all = c.end_all.ensures.ended ∙ ap (λ xs. map (over_at n) xs) c.deref_mut.ensures.value in
    let mid = c.end_all.new.seat in
    let end = ap (λ p. (g.P.Keeper.shown p).end) c.end_all.ensures.seat.changes.keeper in
    let crash = unopened_crash g.P.Keeper.shown w.seats.items w.attempts.items later n m mid c.reopen.new.self at later_is c.end_all.ensures.seat.changes.history end c.end_all.ensures.seat.history ys over_all c.end_all.ensures.tied c.in_err-reopen.ensures.history c.in_err-reopen.ensures.end c.in_err-reopen.ensures.lacking in
    subst (λ r. IfErr r (λ fault. Leaves (limits g.P.Keeper.growth g.P.Keeper.room) fault c.args.self.now (Crash n) (scene_of g.P.Keeper.shown w.moment (slice_set w.seats.items n c.reopen.new.self) w.requests.items w.replies.items later))) (sym (err_memory c.from_residual-in_err-reopen.result c.from_residual-in_err-reopen.ensures.0 c.from_residual-in_err-reopen.ensures.1))
    (leaves_crashed (limits g.P.Keeper.growth g.P.Keeper.room) g.P.Keeper.shown w.moment w.seats.items w.requests.items w.replies.items w.attempts.items later n m c.reopen.new.self c.args.self.now c.self.view_is crash)

pub returns-in_err-reopen-clause-causes : goal.returns-in_err-reopen-clause-causes
returns-in_err-reopen-clause-causes g c =
    let w = c.self.inside in
    let n = c.args.server in
    let m = c.index_mut-seat.result.now in
    let below : n < length w.seats.items = let e = c.if-number-len.false in let l = c.len.ensures in omega (arith, e, l) in
    let at = index_is w.seats.items n m below c.index_mut-seat.ensures.value in
    subst (λ r. AreCaused c.args.self.now.world (Crash n) r) (sym (err_memory c.from_residual-in_err-reopen.result c.from_residual-in_err-reopen.ensures.0 c.from_residual-in_err-reopen.ensures.1))
    (caused_memory c.args.self.now.world (Crash n) (crashed_causes w.moment w.seats.items w.requests.items w.replies.items w.attempts.items n c.args.self.now.world (ap (λ s. s.world) c.self.view_is) below))

pub invariant_of-self-2 : goal.invariant_of-self-2
invariant_of-self-2 g c =
    let w = c.self.inside in
    let n = c.args.server in
    let m = c.index_mut-seat.result.now in
    let below : n < length w.seats.items = let e = c.if-number-len.false in let l = c.len.ensures in omega (arith, e, l) in
    let at = index_is w.seats.items n m below c.index_mut-seat.ensures.value in
    let ys = c.end_all.new.attempts in
    let later = take w.attempts.len (ys ++ drop (length ys) w.attempts.items) in
    let later_is = later_over w.attempts.items c.deref_mut.result.now ys w.attempts.len n w.attempts.ok.0 c.deref_mut.ensures.value c.end_all.ensures.ended in
    let over_all = c.end_all.ensures.ended ∙ ap (λ xs. map (over_at n) xs) c.deref_mut.ensures.value in
    let mid = c.end_all.new.seat in
    let end = ap (λ p. (g.P.Keeper.shown p).end) c.end_all.ensures.seat.changes.keeper in
    let crash = opened_crash g.P.Keeper.shown w.seats.items w.attempts.items later n m mid c.reopen.new.self at later_is c.end_all.ensures.seat.changes.history (c.self.invariant.seated n m at).logged end c.in_ok-reopen.ensures.history c.in_ok-reopen.ensures.end c.in_ok-reopen.ensures.opened in
    whole_crashed g.P.Keeper.shown w.moment w.seats.items w.requests.items w.replies.items w.attempts.items later n m c.reopen.new.self c.self.invariant crash

pub returns-clause-happened : goal.returns-clause-happened
returns-clause-happened g c =
    let w = c.self.inside in
    let n = c.args.server in
    let m = c.index_mut-seat.result.now in
    let below : n < length w.seats.items = let e = c.if-number-len.false in let l = c.len.ensures in omega (arith, e, l) in
    let at = index_is w.seats.items n m below c.index_mut-seat.ensures.value in
    let ys = c.end_all.new.attempts in
    let later = take w.attempts.len (ys ++ drop (length ys) w.attempts.items) in
    let later_is = later_over w.attempts.items c.deref_mut.result.now ys w.attempts.len n w.attempts.ok.0 c.deref_mut.ensures.value c.end_all.ensures.ended in
    let over_all = c.end_all.ensures.ended ∙ ap (λ xs. map (over_at n) xs) c.deref_mut.ensures.value in
    let mid = c.end_all.new.seat in
    let end = ap (λ p. (g.P.Keeper.shown p).end) c.end_all.ensures.seat.changes.keeper in
    let crash = opened_crash g.P.Keeper.shown w.seats.items w.attempts.items later n m mid c.reopen.new.self at later_is c.end_all.ensures.seat.changes.history (c.self.invariant.seated n m at).logged end c.in_ok-reopen.ensures.history c.in_ok-reopen.ensures.end c.in_ok-reopen.ensures.opened in
    happens_crashed (limits g.P.Keeper.growth g.P.Keeper.room) g.P.Keeper.shown w.moment w.seats.items w.requests.items w.replies.items w.attempts.items later n m c.reopen.new.self c.args.self.now c.self.view_is c.self.invariant crash

pub returns-clause-causes : goal.returns-clause-causes
returns-clause-causes g c =
    let w = c.self.inside in
    let n = c.args.server in
    let m = c.index_mut-seat.result.now in
    let below : n < length w.seats.items = let e = c.if-number-len.false in let l = c.len.ensures in omega (arith, e, l) in
    let at = index_is w.seats.items n m below c.index_mut-seat.ensures.value in
    caused_ok c.args.self.now.world (Crash n) Crashed (crashed_causes w.moment w.seats.items w.requests.items w.replies.items w.attempts.items n c.args.self.now.world (ap (λ s. s.world) c.self.view_is) below)
