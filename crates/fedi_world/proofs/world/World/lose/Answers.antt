use Rattle.std.proofs.Common.{◌≡◌, Err, IfErr, IfOk, Ok, Some, ap, arith, refl, subst, sym, true, ◌∙◌}
use Rattle.std.specs.Prelude.{slice_get, slice_set}
use Rattle.std.proofs.lemmas.Option.{slice_get_within}
use Rattle.fedi_worlds.specs.Worlds.{is_open}
use Rattle.fedi_worlds.proofs.Places.{some_is}
use Rattle.fedi_world.specs.declared.event.Event.TheVariants.{Lose}
use Rattle.fedi_world.specs.declared.event.Happened.TheVariants.{Recorded}
use Rattle.fedi_world.specs.Ending.{HasNoOpenAt, failed_at}
use Rattle.fedi_world.specs.Happenings.{AreCaused, Happens, Leaves, limits}
use Rattle.fedi_world.specs.Scenes.{scene_of, stage_of}
use Rattle.fedi_world.proofs.Ended.{claimed_at, closed_causes, failed_may, forgotten_causes, happens_lost, held_by, leaves_lost, lost_causes, over_by, server_there, whole_lost}
use Rattle.fedi_world.proofs.Spots.{index_is}
use Rattle.fedi_world.proofs.world.World.lose.Goals as goal
use Rattle.fedi_world.proofs.world.World.lose.Goals.{in-Ok, in-Err}

pub index_mut-pending-requires : goal.index_mut-pending-requires
index_mut-pending-requires g c =
    let w = c.self.inside in
    let k = c.args.attempt in
    let o = c.has_open.ensures.some c.if-not-has_open.false in
    let found : slice_get w.attempts.items k ≡ Some o.attempt = ap (λ xs. slice_get xs k) (sym c.deref.ensures.value) ∙ o.there in
    let e = slice_get_within w.attempts.items k o.attempt found in let l = w.attempts.ok.0 in omega (arith, e, l)

pub index_mut-seat-requires : goal.index_mut-seat-requires
index_mut-seat-requires g c =
    let w = c.self.inside in
    let k = c.args.attempt in
    let o = c.has_open.ensures.some c.if-not-has_open.false in
    let found : slice_get w.attempts.items k ≡ Some o.attempt = ap (λ xs. slice_get xs k) (sym c.deref.ensures.value) ∙ o.there in
    let a = c.index_mut-pending.result.now in
    let there = index_is w.attempts.items k a (slice_get_within w.attempts.items k o.attempt found) c.index_mut-pending.ensures.value in
    let open_yet : is_open (stage_of a.stage) ≡ true = subst (λ x. is_open (stage_of x.stage) ≡ true) (some_is o.attempt a (sym found ∙ there)) o.open_yet in
    let e = server_there w.moment w.seats.items w.requests.items w.replies.items w.attempts.items k a c.self.invariant there open_yet in let l = w.seats.ok.0 in omega (arith, e, l)

pub end_attempt-requires-clause-claimed : goal.end_attempt-requires-clause-claimed
end_attempt-requires-clause-claimed g c =
    let w = c.self.inside in
    let k = c.args.attempt in
    let o = c.has_open.ensures.some c.if-not-has_open.false in
    let found : slice_get w.attempts.items k ≡ Some o.attempt = ap (λ xs. slice_get xs k) (sym c.deref.ensures.value) ∙ o.there in
    let a = c.index_mut-pending.result.now in
    let there = index_is w.attempts.items k a (slice_get_within w.attempts.items k o.attempt found) c.index_mut-pending.ensures.value in
    let open_yet : is_open (stage_of a.stage) ≡ true = subst (λ x. is_open (stage_of x.stage) ≡ true) (some_is o.attempt a (sym found ∙ there)) o.open_yet in
    let m = c.index_mut-seat.result.now in
    let at = index_is w.seats.items a.server m (server_there w.moment w.seats.items w.requests.items w.replies.items w.attempts.items k a c.self.invariant there open_yet) c.index_mut-seat.ensures.value in
    claimed_at w.moment w.seats.items w.requests.items w.replies.items w.attempts.items k a m c.self.invariant there open_yet at

pub end_attempt-requires-clause-came : goal.end_attempt-requires-clause-came
end_attempt-requires-clause-came g c =
    failed_may (stage_of c.index_mut-pending.result.now.stage) c.failure_of-came.result c.failure_of-came.ensures

pub end_attempt-requires-clause-later : goal.end_attempt-requires-clause-later
end_attempt-requires-clause-later g c =
    let w = c.self.inside in
    let k = c.args.attempt in
    let o = c.has_open.ensures.some c.if-not-has_open.false in
    let found : slice_get w.attempts.items k ≡ Some o.attempt = ap (λ xs. slice_get xs k) (sym c.deref.ensures.value) ∙ o.there in
    let a = c.index_mut-pending.result.now in
    let there = index_is w.attempts.items k a (slice_get_within w.attempts.items k o.attempt found) c.index_mut-pending.ensures.value in
    let open_yet : is_open (stage_of a.stage) ≡ true = subst (λ x. is_open (stage_of x.stage) ≡ true) (some_is o.attempt a (sym found ∙ there)) o.open_yet in
    (held_by w.moment w.seats.items w.requests.items w.replies.items w.attempts.items k a c.self.invariant there open_yet).earlier

pub invariant_of-self : goal.invariant_of-self
invariant_of-self g c =
    let w = c.self.inside in
    let k = c.args.attempt in
    let o = c.has_open.ensures.some c.if-not-has_open.false in
    let found : slice_get w.attempts.items k ≡ Some o.attempt = ap (λ xs. slice_get xs k) (sym c.deref.ensures.value) ∙ o.there in
    let a = c.index_mut-pending.result.now in
    let there = index_is w.attempts.items k a (slice_get_within w.attempts.items k o.attempt found) c.index_mut-pending.ensures.value in
    let open_yet : is_open (stage_of a.stage) ≡ true = subst (λ x. is_open (stage_of x.stage) ≡ true) (some_is o.attempt a (sym found ∙ there)) o.open_yet in
    let m = c.index_mut-seat.result.now in
    let at = index_is w.seats.items a.server m (server_there w.moment w.seats.items w.requests.items w.replies.items w.attempts.items k a c.self.invariant there open_yet) c.index_mut-seat.ensures.value in
    let over = over_by (limits g.P.Keeper.growth g.P.Keeper.room) g.P.Keeper.shown w.moment w.seats.items w.attempts.items k a c.end_attempt.new.pending c.failure_of-came.result (failed_at (stage_of a.stage)) m c.end_attempt.new.seat c.end_attempt.result c.failure_of-came.ensures at c.end_attempt.ensures.over c.end_attempt.ensures.fit c.end_attempt.ensures.stand c.end_attempt.ensures.ends in
    whole_lost (limits g.P.Keeper.growth g.P.Keeper.room) g.P.Keeper.shown w.moment w.seats.items (slice_set w.seats.items a.server c.end_attempt.new.seat) w.requests.items w.replies.items w.attempts.items (slice_set w.attempts.items k c.end_attempt.new.pending) k a c.end_attempt.result c.self.invariant there open_yet over

pub returns-clause-happened : goal.returns-clause-happened
returns-clause-happened g c =
    let w = c.self.inside in
    let k = c.args.attempt in
    let o = c.has_open.ensures.some c.if-not-has_open.false in
    let found : slice_get w.attempts.items k ≡ Some o.attempt = ap (λ xs. slice_get xs k) (sym c.deref.ensures.value) ∙ o.there in
    let a = c.index_mut-pending.result.now in
    let there = index_is w.attempts.items k a (slice_get_within w.attempts.items k o.attempt found) c.index_mut-pending.ensures.value in
    let open_yet : is_open (stage_of a.stage) ≡ true = subst (λ x. is_open (stage_of x.stage) ≡ true) (some_is o.attempt a (sym found ∙ there)) o.open_yet in
    let m = c.index_mut-seat.result.now in
    let at = index_is w.seats.items a.server m (server_there w.moment w.seats.items w.requests.items w.replies.items w.attempts.items k a c.self.invariant there open_yet) c.index_mut-seat.ensures.value in
    elim c.match-end_attempt.branch [
      | in-Ok v ↦
          let over = over_by (limits g.P.Keeper.growth g.P.Keeper.room) g.P.Keeper.shown w.moment w.seats.items w.attempts.items k a c.end_attempt.new.pending c.failure_of-came.result (failed_at (stage_of a.stage)) m c.end_attempt.new.seat (Ok tt) c.failure_of-came.ensures at c.end_attempt.ensures.over c.end_attempt.ensures.fit c.end_attempt.ensures.stand v.in-Ok.ensures.ends in
          subst (λ r. IfOk r (λ what. Happens (limits g.P.Keeper.growth g.P.Keeper.room) c.args.self.now (Lose k) what (scene_of g.P.Keeper.shown w.moment (slice_set w.seats.items a.server c.end_attempt.new.seat) w.requests.items w.replies.items (slice_set w.attempts.items k c.end_attempt.new.pending)))) (sym v.result-is)
          (subst (λ x. Happens (limits g.P.Keeper.growth g.P.Keeper.room) c.args.self.now (Lose k) (Recorded x) (scene_of g.P.Keeper.shown w.moment (slice_set w.seats.items a.server c.end_attempt.new.seat) w.requests.items w.replies.items (slice_set w.attempts.items k c.end_attempt.new.pending))) (sym c.failure_of-came.ensures)
          (happens_lost (limits g.P.Keeper.growth g.P.Keeper.room) g.P.Keeper.shown w.moment w.seats.items (slice_set w.seats.items a.server c.end_attempt.new.seat) w.requests.items w.replies.items w.attempts.items (slice_set w.attempts.items k c.end_attempt.new.pending) k a c.args.self.now c.self.view_is c.self.invariant there open_yet over))
      | in-Err v ↦ subst (λ r. IfOk r (λ what. Happens (limits g.P.Keeper.growth g.P.Keeper.room) c.args.self.now (Lose k) what (scene_of g.P.Keeper.shown w.moment (slice_set w.seats.items a.server c.end_attempt.new.seat) w.requests.items w.replies.items (slice_set w.attempts.items k c.end_attempt.new.pending)))) (sym v.result-is) tt
    ]

pub returns-clause-left : goal.returns-clause-left
returns-clause-left g c =
    let w = c.self.inside in
    let k = c.args.attempt in
    let o = c.has_open.ensures.some c.if-not-has_open.false in
    let found : slice_get w.attempts.items k ≡ Some o.attempt = ap (λ xs. slice_get xs k) (sym c.deref.ensures.value) ∙ o.there in
    let a = c.index_mut-pending.result.now in
    let there = index_is w.attempts.items k a (slice_get_within w.attempts.items k o.attempt found) c.index_mut-pending.ensures.value in
    let open_yet : is_open (stage_of a.stage) ≡ true = subst (λ x. is_open (stage_of x.stage) ≡ true) (some_is o.attempt a (sym found ∙ there)) o.open_yet in
    let m = c.index_mut-seat.result.now in
    let at = index_is w.seats.items a.server m (server_there w.moment w.seats.items w.requests.items w.replies.items w.attempts.items k a c.self.invariant there open_yet) c.index_mut-seat.ensures.value in
    elim c.match-end_attempt.branch [
      | in-Ok v ↦ subst (λ r. IfErr r (λ fault. Leaves (limits g.P.Keeper.growth g.P.Keeper.room) fault c.args.self.now (Lose k) (scene_of g.P.Keeper.shown w.moment (slice_set w.seats.items a.server c.end_attempt.new.seat) w.requests.items w.replies.items (slice_set w.attempts.items k c.end_attempt.new.pending)))) (sym v.result-is) tt
      | in-Err v ↦
          let over = over_by (limits g.P.Keeper.growth g.P.Keeper.room) g.P.Keeper.shown w.moment w.seats.items w.attempts.items k a c.end_attempt.new.pending c.failure_of-came.result (failed_at (stage_of a.stage)) m c.end_attempt.new.seat (Err v.in-Err.fault) c.failure_of-came.ensures at c.end_attempt.ensures.over c.end_attempt.ensures.fit c.end_attempt.ensures.stand v.in-Err.ensures.ends in
          subst (λ r. IfErr r (λ fault. Leaves (limits g.P.Keeper.growth g.P.Keeper.room) fault c.args.self.now (Lose k) (scene_of g.P.Keeper.shown w.moment (slice_set w.seats.items a.server c.end_attempt.new.seat) w.requests.items w.replies.items (slice_set w.attempts.items k c.end_attempt.new.pending)))) (sym v.result-is)
          (leaves_lost (limits g.P.Keeper.growth g.P.Keeper.room) g.P.Keeper.shown w.moment w.seats.items (slice_set w.seats.items a.server c.end_attempt.new.seat) w.requests.items w.replies.items w.attempts.items (slice_set w.attempts.items k c.end_attempt.new.pending) k a v.in-Err.fault c.args.self.now c.self.view_is c.self.invariant there open_yet over)
    ]

pub returns-clause-causes : goal.returns-clause-causes
returns-clause-causes g c =
    let w = c.self.inside in
    let k = c.args.attempt in
    let o = c.has_open.ensures.some c.if-not-has_open.false in
    let found : slice_get w.attempts.items k ≡ Some o.attempt = ap (λ xs. slice_get xs k) (sym c.deref.ensures.value) ∙ o.there in
    let a = c.index_mut-pending.result.now in
    let there = index_is w.attempts.items k a (slice_get_within w.attempts.items k o.attempt found) c.index_mut-pending.ensures.value in
    let open_yet : is_open (stage_of a.stage) ≡ true = subst (λ x. is_open (stage_of x.stage) ≡ true) (some_is o.attempt a (sym found ∙ there)) o.open_yet in
    let m = c.index_mut-seat.result.now in
    let at = index_is w.seats.items a.server m (server_there w.moment w.seats.items w.requests.items w.replies.items w.attempts.items k a c.self.invariant there open_yet) c.index_mut-seat.ensures.value in
    elim c.match-end_attempt.branch [
      | in-Ok v ↦ subst (λ r. AreCaused c.args.self.now.world (Lose k) r) (sym v.result-is) (lost_causes w.moment w.seats.items w.requests.items w.replies.items w.attempts.items k a (Recorded c.failure_of-came.result) c.args.self.now.world (ap (λ s. s.world) c.self.view_is) there open_yet)
      | in-Err v ↦
          let over = over_by (limits g.P.Keeper.growth g.P.Keeper.room) g.P.Keeper.shown w.moment w.seats.items w.attempts.items k a c.end_attempt.new.pending c.failure_of-came.result (failed_at (stage_of a.stage)) m c.end_attempt.new.seat (Err v.in-Err.fault) c.failure_of-came.ensures at c.end_attempt.ensures.over c.end_attempt.ensures.fit c.end_attempt.ensures.stand v.in-Err.ensures.ends in
          subst (λ r. AreCaused c.args.self.now.world (Lose k) r) (sym v.result-is)
          (forgotten_causes (limits g.P.Keeper.growth g.P.Keeper.room) g.P.Keeper.shown w.moment w.seats.items (slice_set w.seats.items a.server c.end_attempt.new.seat) w.requests.items w.replies.items w.attempts.items (slice_set w.attempts.items k c.end_attempt.new.pending) k a (failed_at (stage_of a.stage)) v.in-Err.fault c.args.self.now.world (ap (λ s. s.world) c.self.view_is) there open_yet over)
    ]

pub returns-then-not-has_open-clause-causes : goal.returns-then-not-has_open-clause-causes
returns-then-not-has_open-clause-causes g c =
    let w = c.self.inside in
    closed_causes w.moment w.seats.items w.requests.items w.replies.items w.attempts.items c.args.attempt c.args.self.now.world (ap (λ s. s.world) c.self.view_is) (subst (λ xs. HasNoOpenAt xs c.args.attempt) c.deref.ensures.value (c.has_open.ensures.none c.if-not-has_open.true))
