use Rattle.std.proofs.Common.{Err, Ok, ap, arith, subst, sym}
use Rattle.std.specs.Prelude.{slice_set}
use Rattle.fedi_world.specs.declared.event.Event.TheVariants.{Say}
use Rattle.fedi_world.specs.declared.event.Happened.TheVariants.{Replied}
use Rattle.fedi_world.specs.Happenings.{Happens, limits}
use Rattle.fedi_world.specs.Scenes.{scene_of}
use Rattle.fedi_world.specs.Posting.{IsPosted}
use Rattle.fedi_world.proofs.Causes.{beyond, say_nowhere}
use Rattle.fedi_world.proofs.Saying.{happens_said, leaves_unsaid, said_causes, unsaid_causes, whole_said, whole_unsaid}
use Rattle.fedi_world.proofs.Spots.{index_is}
use Rattle.fedi_world.proofs.world.World.say.Goals as goal

pub returns-then-number-len-clause-causes : goal.returns-then-number-len-clause-causes
returns-then-number-len-clause-causes g c =
    let w = c.self.inside in
    say_nowhere c.args.self.now.world c.args.server c.args.name c.args.body
    (beyond w.moment w.seats.items w.requests.items w.replies.items w.attempts.items c.args.server c.args.self.now.world (ap (λ s. s.world) c.self.view_is)
    (let n = c.if-number-len.true in let e = c.len.ensures in omega (arith, n, e)))

pub invariant_of-self : goal.invariant_of-self
invariant_of-self g c =
    let w = c.self.inside in
    let m = c.index_mut-seat.result.now in
    let at = index_is w.seats.items c.args.server m (let n = c.if-number-len.false in let e = c.len.ensures in omega (arith, n, e)) c.index_mut-seat.ensures.value in
    whole_said g.P.Keeper w.moment w.seats.items w.requests.items w.replies.items w.attempts.items c.args.server c.args.name c.args.body.items m c.post_by.new.seat c.in-Ok.given c.self.invariant at
    (subst (λ b. IsPosted g.P.Keeper c.args.name b w.moment m c.post_by.new.seat (Ok c.in-Ok.given)) c.deref.ensures.value c.in-Ok.ensures.posted) c.in-Ok.ensures.fit

pub returns-in-Ok-clause-happened : goal.returns-in-Ok-clause-happened
returns-in-Ok-clause-happened g c =
    let w = c.self.inside in
    let m = c.index_mut-seat.result.now in
    let at = index_is w.seats.items c.args.server m (let n = c.if-number-len.false in let e = c.len.ensures in omega (arith, n, e)) c.index_mut-seat.ensures.value in
    subst (λ s. Happens (limits g.P.Keeper.growth g.P.Keeper.room) c.args.self.now (Say c.args.server c.args.name c.args.body) (Replied s c.in-Ok.given.location)
    (scene_of g.P.Keeper.shown w.moment (slice_set w.seats.items c.args.server c.post_by.new.seat) w.requests.items w.replies.items w.attempts.items)) (sym c.as_u16.ensures.value)
    (happens_said g.P.Keeper w.moment w.seats.items w.requests.items w.replies.items w.attempts.items c.args.server c.args.name c.args.body m c.post_by.new.seat c.in-Ok.given c.args.self.now
    c.self.view_is c.self.invariant at (subst (λ b. IsPosted g.P.Keeper c.args.name b w.moment m c.post_by.new.seat (Ok c.in-Ok.given)) c.deref.ensures.value c.in-Ok.ensures.posted) c.in-Ok.ensures.fit)

pub returns-in-Ok-clause-causes : goal.returns-in-Ok-clause-causes
returns-in-Ok-clause-causes g c =
    let w = c.self.inside in
    let m = c.index_mut-seat.result.now in
    let at = index_is w.seats.items c.args.server m (let n = c.if-number-len.false in let e = c.len.ensures in omega (arith, n, e)) c.index_mut-seat.ensures.value in
    said_causes g.P.Keeper w.moment w.seats.items w.requests.items w.replies.items w.attempts.items c.args.server c.args.name c.args.body m c.post_by.new.seat c.in-Ok.given _ _ c.args.self.now.world
    (ap (λ s. s.world) c.self.view_is) at (subst (λ b. IsPosted g.P.Keeper c.args.name b w.moment m c.post_by.new.seat (Ok c.in-Ok.given)) c.deref.ensures.value c.in-Ok.ensures.posted)

pub invariant_of-self-2 : goal.invariant_of-self-2
invariant_of-self-2 g c =
    let w = c.self.inside in
    let m = c.index_mut-seat.result.now in
    let at = index_is w.seats.items c.args.server m (let n = c.if-number-len.false in let e = c.len.ensures in omega (arith, n, e)) c.index_mut-seat.ensures.value in
    whole_unsaid g.P.Keeper w.moment w.seats.items w.requests.items w.replies.items w.attempts.items c.args.server c.args.name c.args.body.items m c.post_by.new.seat c.in-Err.fault c.self.invariant at
    (subst (λ b. IsPosted g.P.Keeper c.args.name b w.moment m c.post_by.new.seat (Err c.in-Err.fault)) c.deref.ensures.value c.in-Err.ensures.posted)

pub returns-clause-left : goal.returns-clause-left
returns-clause-left g c =
    let w = c.self.inside in
    let m = c.index_mut-seat.result.now in
    let at = index_is w.seats.items c.args.server m (let n = c.if-number-len.false in let e = c.len.ensures in omega (arith, n, e)) c.index_mut-seat.ensures.value in
    leaves_unsaid g.P.Keeper w.moment w.seats.items w.requests.items w.replies.items w.attempts.items c.args.server c.args.name c.args.body m c.post_by.new.seat c.in-Err.fault c.args.self.now
    c.self.view_is at (subst (λ b. IsPosted g.P.Keeper c.args.name b w.moment m c.post_by.new.seat (Err c.in-Err.fault)) c.deref.ensures.value c.in-Err.ensures.posted)

pub returns-clause-causes : goal.returns-clause-causes
returns-clause-causes g c =
    let w = c.self.inside in
    let m = c.index_mut-seat.result.now in
    let at = index_is w.seats.items c.args.server m (let n = c.if-number-len.false in let e = c.len.ensures in omega (arith, n, e)) c.index_mut-seat.ensures.value in
    unsaid_causes g.P.Keeper w.moment w.seats.items w.requests.items w.replies.items w.attempts.items c.args.server c.args.name c.args.body m c.post_by.new.seat c.in-Err.fault c.args.self.now.world
    (ap (λ s. s.world) c.self.view_is) at (subst (λ b. IsPosted g.P.Keeper c.args.name b w.moment m c.post_by.new.seat (Err c.in-Err.fault)) c.deref.ensures.value c.in-Err.ensures.posted)
