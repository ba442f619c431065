use Rattle.std.proofs.Common.{◌≡◌, ◌≤◌, length, [], ◌∷◌, ◌++◌, Err, Ok, Some, ap, arith, refl, subst, sym, ◌∙◌}
use Rattle.std.specs.Prelude.{slice_get, slice_set}
use Rattle.std.proofs.lemmas.Option.{slice_get_within}
use Rattle.fedi_seat.specs.Serving.{Serves}
use Rattle.fedi_world.specs.declared.event.Event.TheVariants.{Arrive}
use Rattle.fedi_world.specs.declared.event.WorldFault.TheVariants.{Memory}
use Rattle.fedi_world.specs.declared.parts.Answer.{Answer}
use Rattle.fedi_world.specs.Happenings.{AreCaused, Leaves, limits}
use Rattle.fedi_world.specs.Reading.{IsAt, IsNowhere}
use Rattle.fedi_world.specs.Scenes.{scene_of}
use Rattle.fedi_world.specs.Standing.{IsWhole}
use Rattle.fedi_world.proofs.Arriving.{arrived_causes, come_of, happens_arrived, homeless_causes, leaves_unarrived, unarrived_causes, unsent_causes, whole_arrived}
use Rattle.fedi_world.proofs.Causes.{err_memory}
use Rattle.fedi_world.proofs.Kept.{whole_stays}
use Rattle.fedi_world.proofs.Spots.{index_is}
use Rattle.fedi_world.proofs.world.World.arrive.Goals as goal

pub returns-in_default-clause-causes : goal.returns-in_default-clause-causes
returns-in_default-clause-causes g c =
    let w = c.self.inside in
    let e = c.in_default.ensures.lookup.3 in
    unsent_causes w.moment w.seats.items w.requests.items w.replies.items w.attempts.items c.args.request c.args.self.now.world (ap (λ s. s.world) c.self.view_is) (subst (λ xs. length xs ≤ c.args.request) c.deref.ensures.value e)

pub returns-in_default-seat_at-clause-causes : goal.returns-in_default-seat_at-clause-causes
returns-in_default-seat_at-clause-causes g c =
    let w = c.self.inside in
    let k = c.args.request in
    let p = c.in-Some.packet.now in
    let got = c.in-Some.ensures.lookup in
    let sent : slice_get w.requests.items k ≡ Some p = ap (λ xs. slice_get xs k) (sym c.deref.ensures.value) ∙ index_is c.deref.result.now k p got.3.0 got.1 in
    homeless_causes w.moment w.seats.items w.requests.items w.replies.items w.attempts.items k p c.args.self.now.world (ap (λ s. s.world) c.self.view_is) c.self.invariant sent
    (subst (λ h. IsNowhere {P = g.row.P.Denot} w.seats.items h) c.host.ensures.value (subst (λ xs. IsNowhere {P = g.row.P.Denot} xs c.host.result.now) c.deref-2.ensures.value c.in_default-seat_at.ensures.none))

pub returns-in_err-reserve-clause-causes : goal.returns-in_err-reserve-clause-causes
returns-in_err-reserve-clause-causes g c =
    let w = c.self.inside in
    let k = c.args.request in
    let p = c.in-Some.packet.now in
    let got = c.in-Some.ensures.lookup in
    let sent : slice_get w.requests.items k ≡ Some p = ap (λ xs. slice_get xs k) (sym c.deref.ensures.value) ∙ index_is c.deref.result.now k p got.3.0 got.1 in
    let n = c.in-Some-seat_at.number in
    let is_at = subst (λ xs. IsAt {P = g.row.P.Denot} xs c.host.result.now n) c.deref-2.ensures.value c.in-Some-seat_at.ensures.some in
    let below = slice_get_within w.seats.items n is_at.0 is_at.1 in
    subst (λ r. AreCaused c.args.self.now.world (Arrive k) r) (sym (err_memory c.from_residual.result c.from_residual.ensures.0 c.from_residual.ensures.1))
    (unarrived_causes w.moment w.seats.items w.requests.items w.replies.items w.attempts.items k n p is_at.0 c.args.self.now.world (ap (λ s. s.world) c.self.view_is) (come_of w.seats.items w.requests.items k n p is_at.0 c.host.result.now sent is_at c.host.ensures.value is_at.1))

pub index_mut-seat-requires : goal.index_mut-seat-requires
index_mut-seat-requires g c =
    let w = c.self.inside in
    let k = c.args.request in
    let p = c.in-Some.packet.now in
    let got = c.in-Some.ensures.lookup in
    let sent : slice_get w.requests.items k ≡ Some p = ap (λ xs. slice_get xs k) (sym c.deref.ensures.value) ∙ index_is c.deref.result.now k p got.3.0 got.1 in
    let n = c.in-Some-seat_at.number in
    let is_at = subst (λ xs. IsAt {P = g.row.P.Denot} xs c.host.result.now n) c.deref-2.ensures.value c.in-Some-seat_at.ensures.some in
    let below = slice_get_within w.seats.items n is_at.0 is_at.1 in
    let l = w.seats.ok.0 in omega (arith, below, l)

pub invariant_of-self-in-Ok : goal.invariant_of-self-in-Ok
invariant_of-self-in-Ok g c =
    let w = c.self.inside in
    let k = c.args.request in
    let p = c.in-Some.packet.now in
    let got = c.in-Some.ensures.lookup in
    let sent : slice_get w.requests.items k ≡ Some p = ap (λ xs. slice_get xs k) (sym c.deref.ensures.value) ∙ index_is c.deref.result.now k p got.3.0 got.1 in
    let n = c.in-Some-seat_at.number in
    let is_at = subst (λ xs. IsAt {P = g.row.P.Denot} xs c.host.result.now n) c.deref-2.ensures.value c.in-Some-seat_at.ensures.some in
    let below = slice_get_within w.seats.items n is_at.0 is_at.1 in
    let m = c.index_mut-seat.result.now in
    let at = index_is w.seats.items n m below c.index_mut-seat.ensures.value in
    let come = come_of w.seats.items w.requests.items k n p m c.host.result.now sent is_at c.host.ensures.value at in
    let served = c.in-Ok.field-0 in
    let b : Answer = record { request = k; text = served.text } in
    let more = c.push_reserved.ensures.items ∙ ap (λ xs. xs ++ b ∷ []) c.in_ok-reserve.ensures.items in
    let serves = subst (λ t. Serves {P = g.row.P.Denot} g.P.Keeper t w.moment served m c.serve.new.self) c.deref-3.ensures.value c.in-Ok.ensures.serves in
    whole_arrived g.P.Keeper w.moment w.seats.items w.requests.items w.replies.items c.push_reserved.new.self.items w.attempts.items k n p m c.serve.new.self served b c.self.invariant come refl refl serves c.show.ensures.fit more

pub invariant_of-self-in-Err-CutShort : goal.invariant_of-self-in-Err-CutShort
invariant_of-self-in-Err-CutShort g c =
    let w = c.self.inside in
    let k = c.args.request in
    let p = c.in-Some.packet.now in
    let got = c.in-Some.ensures.lookup in
    let sent : slice_get w.requests.items k ≡ Some p = ap (λ xs. slice_get xs k) (sym c.deref.ensures.value) ∙ index_is c.deref.result.now k p got.3.0 got.1 in
    let n = c.in-Some-seat_at.number in
    let is_at = subst (λ xs. IsAt {P = g.row.P.Denot} xs c.host.result.now n) c.deref-2.ensures.value c.in-Some-seat_at.ensures.some in
    let below = slice_get_within w.seats.items n is_at.0 is_at.1 in
    let m = c.index_mut-seat.result.now in
    let at = index_is w.seats.items n m below c.index_mut-seat.ensures.value in
    let come = come_of w.seats.items w.requests.items k n p m c.host.result.now sent is_at c.host.ensures.value at in
    subst (λ rs. IsWhole w.moment (slice_set w.seats.items n c.serve.new.self) w.requests.items rs w.attempts.items) (sym c.in_ok-reserve.ensures.items)
    (whole_stays g.P.Keeper w.moment w.seats.items w.requests.items w.replies.items w.attempts.items n m c.serve.new.self c.self.invariant at c.in-Err-CutShort.ensures.lacking)

pub returns-in-Ok-clause-happened : goal.returns-in-Ok-clause-happened
returns-in-Ok-clause-happened g c =
    let w = c.self.inside in
    let k = c.args.request in
    let p = c.in-Some.packet.now in
    let got = c.in-Some.ensures.lookup in
    let sent : slice_get w.requests.items k ≡ Some p = ap (λ xs. slice_get xs k) (sym c.deref.ensures.value) ∙ index_is c.deref.result.now k p got.3.0 got.1 in
    let n = c.in-Some-seat_at.number in
    let is_at = subst (λ xs. IsAt {P = g.row.P.Denot} xs c.host.result.now n) c.deref-2.ensures.value c.in-Some-seat_at.ensures.some in
    let below = slice_get_within w.seats.items n is_at.0 is_at.1 in
    let m = c.index_mut-seat.result.now in
    let at = index_is w.seats.items n m below c.index_mut-seat.ensures.value in
    let come = come_of w.seats.items w.requests.items k n p m c.host.result.now sent is_at c.host.ensures.value at in
    let served = c.in-Ok.field-0 in
    let b : Answer = record { request = k; text = served.text } in
    let more = c.push_reserved.ensures.items ∙ ap (λ xs. xs ++ b ∷ []) c.in_ok-reserve.ensures.items in
    let serves = subst (λ t. Serves {P = g.row.P.Denot} g.P.Keeper t w.moment served m c.serve.new.self) c.deref-3.ensures.value c.in-Ok.ensures.serves in
    happens_arrived g.P.Keeper w.moment w.seats.items w.requests.items w.replies.items c.push_reserved.new.self.items w.attempts.items k n c.len-reply.result p m c.serve.new.self served b
    c.args.self.now c.self.view_is (let e = c.len-reply.ensures in omega (arith, e)) c.self.invariant come refl refl serves c.show.ensures.fit more

pub returns-in-Ok-clause-causes : goal.returns-in-Ok-clause-causes
returns-in-Ok-clause-causes g c =
    let w = c.self.inside in
    let k = c.args.request in
    let p = c.in-Some.packet.now in
    let got = c.in-Some.ensures.lookup in
    let sent : slice_get w.requests.items k ≡ Some p = ap (λ xs. slice_get xs k) (sym c.deref.ensures.value) ∙ index_is c.deref.result.now k p got.3.0 got.1 in
    let n = c.in-Some-seat_at.number in
    let is_at = subst (λ xs. IsAt {P = g.row.P.Denot} xs c.host.result.now n) c.deref-2.ensures.value c.in-Some-seat_at.ensures.some in
    let below = slice_get_within w.seats.items n is_at.0 is_at.1 in
    let m = c.index_mut-seat.result.now in
    let at = index_is w.seats.items n m below c.index_mut-seat.ensures.value in
    let come = come_of w.seats.items w.requests.items k n p m c.host.result.now sent is_at c.host.ensures.value at in
    arrived_causes w.moment w.seats.items w.requests.items w.replies.items w.attempts.items k n c.len-reply.result c.in-Ok.field-0.status p m c.args.self.now.world (ap (λ s. s.world) c.self.view_is) come

pub returns-in-Err-CutShort-clause-left : goal.returns-in-Err-CutShort-clause-left
returns-in-Err-CutShort-clause-left g c =
    let w = c.self.inside in
    let k = c.args.request in
    let p = c.in-Some.packet.now in
    let got = c.in-Some.ensures.lookup in
    let sent : slice_get w.requests.items k ≡ Some p = ap (λ xs. slice_get xs k) (sym c.deref.ensures.value) ∙ index_is c.deref.result.now k p got.3.0 got.1 in
    let n = c.in-Some-seat_at.number in
    let is_at = subst (λ xs. IsAt {P = g.row.P.Denot} xs c.host.result.now n) c.deref-2.ensures.value c.in-Some-seat_at.ensures.some in
    let below = slice_get_within w.seats.items n is_at.0 is_at.1 in
    let m = c.index_mut-seat.result.now in
    let at = index_is w.seats.items n m below c.index_mut-seat.ensures.value in
    let come = come_of w.seats.items w.requests.items k n p m c.host.result.now sent is_at c.host.ensures.value at in
    subst (λ rs. Leaves (limits g.P.Keeper.growth g.P.Keeper.room) Memory c.args.self.now (Arrive k) (scene_of g.P.Keeper.shown w.moment (slice_set w.seats.items n c.serve.new.self) w.requests.items rs w.attempts.items)) (sym c.in_ok-reserve.ensures.items)
    (leaves_unarrived g.P.Keeper w.moment w.seats.items w.requests.items w.replies.items w.attempts.items k n m c.serve.new.self c.args.self.now c.self.view_is at c.in-Err-CutShort.ensures.lacking)

pub returns-in-Err-CutShort-clause-causes : goal.returns-in-Err-CutShort-clause-causes
returns-in-Err-CutShort-clause-causes g c =
    let w = c.self.inside in
    let k = c.args.request in
    let p = c.in-Some.packet.now in
    let got = c.in-Some.ensures.lookup in
    let sent : slice_get w.requests.items k ≡ Some p = ap (λ xs. slice_get xs k) (sym c.deref.ensures.value) ∙ index_is c.deref.result.now k p got.3.0 got.1 in
    let n = c.in-Some-seat_at.number in
    let is_at = subst (λ xs. IsAt {P = g.row.P.Denot} xs c.host.result.now n) c.deref-2.ensures.value c.in-Some-seat_at.ensures.some in
    let below = slice_get_within w.seats.items n is_at.0 is_at.1 in
    let m = c.index_mut-seat.result.now in
    let at = index_is w.seats.items n m below c.index_mut-seat.ensures.value in
    let come = come_of w.seats.items w.requests.items k n p m c.host.result.now sent is_at c.host.ensures.value at in
    unarrived_causes w.moment w.seats.items w.requests.items w.replies.items w.attempts.items k n p m c.args.self.now.world (ap (λ s. s.world) c.self.view_is) come
