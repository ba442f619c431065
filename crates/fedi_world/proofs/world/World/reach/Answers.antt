use Rattle.std.proofs.Common.{◌≡◌, ◌≤◌, [], ◌∷◌, ◌++◌, Err, IfErr, IfOk, Ok, Some, ap, arith, length, refl, subst, sym, ◌∙◌}
use Rattle.std.specs.Prelude.{slice_get, slice_set}
use Rattle.std.proofs.lemmas.Option.{slice_get_within}
use Rattle.fedi_delivery.specs.declared.replies.Found.TheVariants.{Ended, Inbox}
use Rattle.fedi_worlds.proofs.Places.{some_is}
use Rattle.fedi_world.specs.declared.event.Event.TheVariants.{Reach}
use Rattle.fedi_world.specs.declared.event.Happened.TheVariants.{Moved, Recorded}
use Rattle.fedi_world.specs.declared.parts.Packet.{Packet}
use Rattle.fedi_world.specs.Ending.{HasClaim, HasNoOpen, IsOpenOf, IsPost}
use Rattle.fedi_world.specs.Happenings.{AreCaused, Happens, Leaves, limits}
use Rattle.fedi_world.specs.Scenes.{scene_of}
use Rattle.fedi_world.proofs.Causes.{err_memory}
use Rattle.fedi_world.proofs.Ended.{claimed_at, held_by, over_by, server_there}
use Rattle.fedi_world.proofs.Reached.{IsMoved, IsShut, back_of, happens_moved, happens_shut, has_claim, heard_by, leaves_shut, may_be, posting, reached_causes, shut_causes, unheard_causes, unread_causes, unsent_reply_causes, whole_moved, whole_shut}
use Rattle.fedi_world.proofs.Spots.{index_is}
use Rattle.fedi_world.proofs.world.World.reach.Goals as goal
use Rattle.fedi_world.proofs.world.World.reach.Goals.{in-Ok, in-Err}

pub returns-in_default-clause-causes : goal.returns-in_default-clause-causes
returns-in_default-clause-causes g c =
    let w = c.self.inside in
    let e = c.in_default.ensures.lookup.3 in
    unsent_reply_causes w.moment w.seats.items w.requests.items w.replies.items w.attempts.items c.args.reply c.args.self.now.world (ap (λ s. s.world) c.self.view_is) (subst (λ xs. length xs ≤ c.args.reply) c.deref.ensures.value e)

pub returns-in_default-open_attempt-clause-causes : goal.returns-in_default-open_attempt-clause-causes
returns-in_default-open_attempt-clause-causes g c =
    let w = c.self.inside in
    let j = c.args.reply in
    let b = c.in-Some.answer.now in
    let got = c.in-Some.ensures.lookup in
    let sent : slice_get w.replies.items j ≡ Some b = ap (λ xs. slice_get xs j) (sym c.deref.ensures.value) ∙ index_is c.deref.result.now j b got.3.0 got.1 in
    unheard_causes w.moment w.seats.items w.requests.items w.replies.items w.attempts.items j b c.args.self.now.world (ap (λ s. s.world) c.self.view_is) sent
    (subst (λ ps. HasNoOpen w.requests.items ps b.request) c.deref-3.ensures.value (subst (λ qs. HasNoOpen qs c.deref-3.result.now b.request) c.deref-2.ensures.value c.in_default-open_attempt.ensures.none))

pub index-requires : goal.index-requires
index-requires g c =
    let w = c.self.inside in
    let j = c.args.reply in
    let b = c.in-Some.answer.now in
    let got = c.in-Some.ensures.lookup in
    let sent : slice_get w.replies.items j ≡ Some b = ap (λ xs. slice_get xs j) (sym c.deref.ensures.value) ∙ index_is c.deref.result.now j b got.3.0 got.1 in
    let k = c.in-Some-open_attempt.number in
    let o = subst (λ ps. IsOpenOf w.requests.items ps b.request k) c.deref-3.ensures.value (subst (λ qs. IsOpenOf qs c.deref-3.result.now b.request k) c.deref-2.ensures.value c.in-Some-open_attempt.ensures.some) in
    let e = slice_get_within w.attempts.items k o.attempt o.there in let l = w.attempts.ok.0 in omega (arith, e, l)

pub returns-in_err-inbox-clause-causes : goal.returns-in_err-inbox-clause-causes
returns-in_err-inbox-clause-causes g c =
    let w = c.self.inside in
    let j = c.args.reply in
    let b = c.in-Some.answer.now in
    let got = c.in-Some.ensures.lookup in
    let sent : slice_get w.replies.items j ≡ Some b = ap (λ xs. slice_get xs j) (sym c.deref.ensures.value) ∙ index_is c.deref.result.now j b got.3.0 got.1 in
    let k = c.in-Some-open_attempt.number in
    let o = subst (λ ps. IsOpenOf w.requests.items ps b.request k) c.deref-3.ensures.value (subst (λ qs. IsOpenOf qs c.deref-3.result.now b.request k) c.deref-2.ensures.value c.in-Some-open_attempt.ensures.some) in
    let back = back_of w.requests.items w.replies.items w.attempts.items j k b sent o o.attempt o.there in
    subst (λ r. AreCaused c.args.self.now.world (Reach j) r) (sym (err_memory c.from_residual.result c.from_residual.ensures.0 c.from_residual.ensures.1))
    (unread_causes w.moment w.seats.items w.requests.items w.replies.items w.attempts.items j k b o.packet o.attempt c.args.self.now.world (ap (λ s. s.world) c.self.view_is) back)

pub returns-in_err-reserve-in-Inbox-clause-causes : goal.returns-in_err-reserve-in-Inbox-clause-causes
returns-in_err-reserve-in-Inbox-clause-causes g c =
    let w = c.self.inside in
    let j = c.args.reply in
    let b = c.in-Some.answer.now in
    let got = c.in-Some.ensures.lookup in
    let sent : slice_get w.replies.items j ≡ Some b = ap (λ xs. slice_get xs j) (sym c.deref.ensures.value) ∙ index_is c.deref.result.now j b got.3.0 got.1 in
    let k = c.in-Some-open_attempt.number in
    let o = subst (λ ps. IsOpenOf w.requests.items ps b.request k) c.deref-3.ensures.value (subst (λ qs. IsOpenOf qs c.deref-3.result.now b.request k) c.deref-2.ensures.value c.in-Some-open_attempt.ensures.some) in
    let back = back_of w.requests.items w.replies.items w.attempts.items j k b sent o o.attempt o.there in
    subst (λ r. AreCaused c.args.self.now.world (Reach j) r) (sym (err_memory c.from_residual-in_err-reserve-in-Inbox.result c.from_residual-in_err-reserve-in-Inbox.ensures.0 c.from_residual-in_err-reserve-in-Inbox.ensures.1))
    (unread_causes w.moment w.seats.items w.requests.items w.replies.items w.attempts.items j k b o.packet o.attempt c.args.self.now.world (ap (λ s. s.world) c.self.view_is) back)

pub post_of-requires : goal.post_of-requires
post_of-requires g c =
    let w = c.self.inside in
    let j = c.args.reply in
    let b = c.in-Some.answer.now in
    let got = c.in-Some.ensures.lookup in
    let sent : slice_get w.replies.items j ≡ Some b = ap (λ xs. slice_get xs j) (sym c.deref.ensures.value) ∙ index_is c.deref.result.now j b got.3.0 got.1 in
    let k = c.in-Some-open_attempt.number in
    let o = subst (λ ps. IsOpenOf w.requests.items ps b.request k) c.deref-3.ensures.value (subst (λ qs. IsOpenOf qs c.deref-3.result.now b.request k) c.deref-2.ensures.value c.in-Some-open_attempt.ensures.some) in
    let back = back_of w.requests.items w.replies.items w.attempts.items j k b sent o o.attempt o.there in
    subst (λ ss. HasClaim {P = g.row.P.Denot} ss c.deref-in-Inbox-2.result.now k) (sym c.deref-in-Inbox.ensures.value)
    (subst (λ ps. HasClaim {P = g.row.P.Denot} w.seats.items ps k) (sym c.deref-in-Inbox-2.ensures.value) (has_claim w.moment w.seats.items w.requests.items w.replies.items w.attempts.items k o.attempt c.self.invariant o.there o.open_yet))

pub returns-in_err-text-in-Inbox-clause-causes : goal.returns-in_err-text-in-Inbox-clause-causes
returns-in_err-text-in-Inbox-clause-causes g c =
    let w = c.self.inside in
    let j = c.args.reply in
    let b = c.in-Some.answer.now in
    let got = c.in-Some.ensures.lookup in
    let sent : slice_get w.replies.items j ≡ Some b = ap (λ xs. slice_get xs j) (sym c.deref.ensures.value) ∙ index_is c.deref.result.now j b got.3.0 got.1 in
    let k = c.in-Some-open_attempt.number in
    let o = subst (λ ps. IsOpenOf w.requests.items ps b.request k) c.deref-3.ensures.value (subst (λ qs. IsOpenOf qs c.deref-3.result.now b.request k) c.deref-2.ensures.value c.in-Some-open_attempt.ensures.some) in
    let back = back_of w.requests.items w.replies.items w.attempts.items j k b sent o o.attempt o.there in
    subst (λ r. AreCaused c.args.self.now.world (Reach j) r) (sym (err_memory c.from_residual-in_err-text-in-Inbox.result c.from_residual-in_err-text-in-Inbox.ensures.0 c.from_residual-in_err-text-in-Inbox.ensures.1))
    (unread_causes w.moment w.seats.items w.requests.items w.replies.items w.attempts.items j k b o.packet o.attempt c.args.self.now.world (ap (λ s. s.world) c.self.view_is) back)

pub index_mut-pending-requires : goal.index_mut-pending-requires
index_mut-pending-requires g c =
    let w = c.self.inside in
    let j = c.args.reply in
    let b = c.in-Some.answer.now in
    let got = c.in-Some.ensures.lookup in
    let sent : slice_get w.replies.items j ≡ Some b = ap (λ xs. slice_get xs j) (sym c.deref.ensures.value) ∙ index_is c.deref.result.now j b got.3.0 got.1 in
    let k = c.in-Some-open_attempt.number in
    let o = subst (λ ps. IsOpenOf w.requests.items ps b.request k) c.deref-3.ensures.value (subst (λ qs. IsOpenOf qs c.deref-3.result.now b.request k) c.deref-2.ensures.value c.in-Some-open_attempt.ensures.some) in
    let e = slice_get_within w.attempts.items k o.attempt o.there in let l = w.attempts.ok.0 in omega (arith, e, l)

pub invariant_of-self-in-Inbox : goal.invariant_of-self-in-Inbox
invariant_of-self-in-Inbox g c =
    let w = c.self.inside in
    let j = c.args.reply in
    let b = c.in-Some.answer.now in
    let got = c.in-Some.ensures.lookup in
    let sent : slice_get w.replies.items j ≡ Some b = ap (λ xs. slice_get xs j) (sym c.deref.ensures.value) ∙ index_is c.deref.result.now j b got.3.0 got.1 in
    let k = c.in-Some-open_attempt.number in
    let o = subst (λ ps. IsOpenOf w.requests.items ps b.request k) c.deref-3.ensures.value (subst (λ qs. IsOpenOf qs c.deref-3.result.now b.request k) c.deref-2.ensures.value c.in-Some-open_attempt.ensures.some) in
    let a = c.index_mut-pending.result.now in
    let there = index_is w.attempts.items k a (slice_get_within w.attempts.items k o.attempt o.there) c.index_mut-pending.ensures.value in
    let back = back_of w.requests.items w.replies.items w.attempts.items j k b sent o a there in
    let first = index_is w.attempts.items k c.index.result.now (slice_get_within w.attempts.items k o.attempt o.there) c.index.ensures in
    let heard = heard_by c.index.result.now a c.deref-4.result.now b.text.items c.in_ok-inbox.field-0 (Inbox c.in-Inbox.inbox) (some_is c.index.result.now a (sym first ∙ there)) c.deref-4.ensures.value c.in-Inbox.is c.in_ok-inbox.ensures in
    let post : Packet = record { attempt = k; to = c.in-Inbox.inbox; text = c.in_ok-text-in-Inbox.text } in
    let is = subst (λ ps. IsPost {P = g.row.P.Denot} w.seats.items ps k c.in-Inbox.inbox post.text.items) c.deref-in-Inbox-2.ensures.value
    (subst (λ ss. IsPost {P = g.row.P.Denot} ss c.deref-in-Inbox-2.result.now k c.in-Inbox.inbox post.text.items) c.deref-in-Inbox.ensures.value c.in_ok-text-in-Inbox.ensures) in
    let moved : IsMoved {P = g.row.P.Denot} w.seats.items w.requests.items w.replies.items w.attempts.items j k b o.packet a c.in-Inbox.inbox post = record { back = back; heard = heard; is = is; mine = refl; to = refl } in
    let more = c.push_reserved.ensures.items ∙ ap (λ xs. xs ++ post ∷ []) c.in_ok-reserve-in-Inbox.ensures.items in
    let count : c.len-request.result ≡ length w.requests.items = let e = c.len-request.ensures in omega (arith, e) in
    let later = slice_set w.attempts.items k (posting a c.len-request.result) in
    let later_is = ap (λ n. slice_set w.attempts.items k (posting a n)) count in
    whole_moved w.moment w.seats.items w.requests.items c.push_reserved.new.self.items w.replies.items w.attempts.items later j k b o.packet a c.in-Inbox.inbox post c.self.invariant moved more later_is

pub index_mut-pending-requires-in-Ended : goal.index_mut-pending-requires-in-Ended
index_mut-pending-requires-in-Ended g c =
    let w = c.self.inside in
    let j = c.args.reply in
    let b = c.in-Some.answer.now in
    let got = c.in-Some.ensures.lookup in
    let sent : slice_get w.replies.items j ≡ Some b = ap (λ xs. slice_get xs j) (sym c.deref.ensures.value) ∙ index_is c.deref.result.now j b got.3.0 got.1 in
    let k = c.in-Some-open_attempt.number in
    let o = subst (λ ps. IsOpenOf w.requests.items ps b.request k) c.deref-3.ensures.value (subst (λ qs. IsOpenOf qs c.deref-3.result.now b.request k) c.deref-2.ensures.value c.in-Some-open_attempt.ensures.some) in
    let e = slice_get_within w.attempts.items k o.attempt o.there in let l = w.attempts.ok.0 in omega (arith, e, l)

pub index_mut-seat-requires : goal.index_mut-seat-requires
index_mut-seat-requires g c =
    let w = c.self.inside in
    let j = c.args.reply in
    let b = c.in-Some.answer.now in
    let got = c.in-Some.ensures.lookup in
    let sent : slice_get w.replies.items j ≡ Some b = ap (λ xs. slice_get xs j) (sym c.deref.ensures.value) ∙ index_is c.deref.result.now j b got.3.0 got.1 in
    let k = c.in-Some-open_attempt.number in
    let o = subst (λ ps. IsOpenOf w.requests.items ps b.request k) c.deref-3.ensures.value (subst (λ qs. IsOpenOf qs c.deref-3.result.now b.request k) c.deref-2.ensures.value c.in-Some-open_attempt.ensures.some) in
    let a = c.index_mut-pending-in-Ended.result.now in
    let there = index_is w.attempts.items k a (slice_get_within w.attempts.items k o.attempt o.there) c.index_mut-pending-in-Ended.ensures.value in
    let back = back_of w.requests.items w.replies.items w.attempts.items j k b sent o a there in
    let e = server_there w.moment w.seats.items w.requests.items w.replies.items w.attempts.items k a c.self.invariant there back.open_yet in let l = w.seats.ok.0 in omega (arith, e, l)

pub end_attempt-requires-clause-claimed : goal.end_attempt-requires-clause-claimed
end_attempt-requires-clause-claimed g c =
    let w = c.self.inside in
    let j = c.args.reply in
    let b = c.in-Some.answer.now in
    let got = c.in-Some.ensures.lookup in
    let sent : slice_get w.replies.items j ≡ Some b = ap (λ xs. slice_get xs j) (sym c.deref.ensures.value) ∙ index_is c.deref.result.now j b got.3.0 got.1 in
    let k = c.in-Some-open_attempt.number in
    let o = subst (λ ps. IsOpenOf w.requests.items ps b.request k) c.deref-3.ensures.value (subst (λ qs. IsOpenOf qs c.deref-3.result.now b.request k) c.deref-2.ensures.value c.in-Some-open_attempt.ensures.some) in
    let a = c.index_mut-pending-in-Ended.result.now in
    let there = index_is w.attempts.items k a (slice_get_within w.attempts.items k o.attempt o.there) c.index_mut-pending-in-Ended.ensures.value in
    let back = back_of w.requests.items w.replies.items w.attempts.items j k b sent o a there in
    let m = c.index_mut-seat.result.now in
    let at = index_is w.seats.items a.server m (server_there w.moment w.seats.items w.requests.items w.replies.items w.attempts.items k a c.self.invariant there back.open_yet) c.index_mut-seat.ensures.value in
    let first = index_is w.attempts.items k c.index.result.now (slice_get_within w.attempts.items k o.attempt o.there) c.index.ensures in
    let heard = heard_by c.index.result.now a c.deref-4.result.now b.text.items c.in_ok-inbox.field-0 (Ended c.in-Ended.came) (some_is c.index.result.now a (sym first ∙ there)) c.deref-4.ensures.value c.in-Ended.is c.in_ok-inbox.ensures in
    claimed_at w.moment w.seats.items w.requests.items w.replies.items w.attempts.items k a m c.self.invariant there back.open_yet at

pub end_attempt-requires-clause-came : goal.end_attempt-requires-clause-came
end_attempt-requires-clause-came g c =
    let w = c.self.inside in
    let j = c.args.reply in
    let b = c.in-Some.answer.now in
    let got = c.in-Some.ensures.lookup in
    let sent : slice_get w.replies.items j ≡ Some b = ap (λ xs. slice_get xs j) (sym c.deref.ensures.value) ∙ index_is c.deref.result.now j b got.3.0 got.1 in
    let k = c.in-Some-open_attempt.number in
    let o = subst (λ ps. IsOpenOf w.requests.items ps b.request k) c.deref-3.ensures.value (subst (λ qs. IsOpenOf qs c.deref-3.result.now b.request k) c.deref-2.ensures.value c.in-Some-open_attempt.ensures.some) in
    let a = c.index_mut-pending-in-Ended.result.now in
    let there = index_is w.attempts.items k a (slice_get_within w.attempts.items k o.attempt o.there) c.index_mut-pending-in-Ended.ensures.value in
    let back = back_of w.requests.items w.replies.items w.attempts.items j k b sent o a there in
    let m = c.index_mut-seat.result.now in
    let at = index_is w.seats.items a.server m (server_there w.moment w.seats.items w.requests.items w.replies.items w.attempts.items k a c.self.invariant there back.open_yet) c.index_mut-seat.ensures.value in
    let first = index_is w.attempts.items k c.index.result.now (slice_get_within w.attempts.items k o.attempt o.there) c.index.ensures in
    let heard = heard_by c.index.result.now a c.deref-4.result.now b.text.items c.in_ok-inbox.field-0 (Ended c.in-Ended.came) (some_is c.index.result.now a (sym first ∙ there)) c.deref-4.ensures.value c.in-Ended.is c.in_ok-inbox.ensures in
    may_be a.stage a.recipient b.text.items c.in-Ended.came heard

pub end_attempt-requires-clause-later : goal.end_attempt-requires-clause-later
end_attempt-requires-clause-later g c =
    let w = c.self.inside in
    let j = c.args.reply in
    let b = c.in-Some.answer.now in
    let got = c.in-Some.ensures.lookup in
    let sent : slice_get w.replies.items j ≡ Some b = ap (λ xs. slice_get xs j) (sym c.deref.ensures.value) ∙ index_is c.deref.result.now j b got.3.0 got.1 in
    let k = c.in-Some-open_attempt.number in
    let o = subst (λ ps. IsOpenOf w.requests.items ps b.request k) c.deref-3.ensures.value (subst (λ qs. IsOpenOf qs c.deref-3.result.now b.request k) c.deref-2.ensures.value c.in-Some-open_attempt.ensures.some) in
    let a = c.index_mut-pending-in-Ended.result.now in
    let there = index_is w.attempts.items k a (slice_get_within w.attempts.items k o.attempt o.there) c.index_mut-pending-in-Ended.ensures.value in
    let back = back_of w.requests.items w.replies.items w.attempts.items j k b sent o a there in
    (held_by w.moment w.seats.items w.requests.items w.replies.items w.attempts.items k a c.self.invariant there back.open_yet).earlier

pub invariant_of-self-in-Ended : goal.invariant_of-self-in-Ended
invariant_of-self-in-Ended g c =
    let w = c.self.inside in
    let j = c.args.reply in
    let b = c.in-Some.answer.now in
    let got = c.in-Some.ensures.lookup in
    let sent : slice_get w.replies.items j ≡ Some b = ap (λ xs. slice_get xs j) (sym c.deref.ensures.value) ∙ index_is c.deref.result.now j b got.3.0 got.1 in
    let k = c.in-Some-open_attempt.number in
    let o = subst (λ ps. IsOpenOf w.requests.items ps b.request k) c.deref-3.ensures.value (subst (λ qs. IsOpenOf qs c.deref-3.result.now b.request k) c.deref-2.ensures.value c.in-Some-open_attempt.ensures.some) in
    let a = c.index_mut-pending-in-Ended.result.now in
    let there = index_is w.attempts.items k a (slice_get_within w.attempts.items k o.attempt o.there) c.index_mut-pending-in-Ended.ensures.value in
    let back = back_of w.requests.items w.replies.items w.attempts.items j k b sent o a there in
    let m = c.index_mut-seat.result.now in
    let at = index_is w.seats.items a.server m (server_there w.moment w.seats.items w.requests.items w.replies.items w.attempts.items k a c.self.invariant there back.open_yet) c.index_mut-seat.ensures.value in
    let first = index_is w.attempts.items k c.index.result.now (slice_get_within w.attempts.items k o.attempt o.there) c.index.ensures in
    let heard = heard_by c.index.result.now a c.deref-4.result.now b.text.items c.in_ok-inbox.field-0 (Ended c.in-Ended.came) (some_is c.index.result.now a (sym first ∙ there)) c.deref-4.ensures.value c.in-Ended.is c.in_ok-inbox.ensures in
    let shut : IsShut (limits g.P.Keeper.growth g.P.Keeper.room) g.P.Keeper.shown w.moment w.seats.items (slice_set w.seats.items a.server c.end_attempt.new.seat) w.requests.items w.replies.items w.attempts.items (slice_set w.attempts.items k c.end_attempt.new.pending) j k b o.packet a c.in-Ended.came c.end_attempt.result = record {
      back = back;
      heard = heard;
      is = over_by (limits g.P.Keeper.growth g.P.Keeper.room) g.P.Keeper.shown w.moment w.seats.items w.attempts.items k a c.end_attempt.new.pending c.in-Ended.came c.in-Ended.came m c.end_attempt.new.seat c.end_attempt.result refl at c.end_attempt.ensures.over c.end_attempt.ensures.fit c.end_attempt.ensures.stand c.end_attempt.ensures.ends;
    } in
    whole_shut (limits g.P.Keeper.growth g.P.Keeper.room) g.P.Keeper.shown w.moment w.seats.items (slice_set w.seats.items a.server c.end_attempt.new.seat) w.requests.items w.replies.items w.attempts.items (slice_set w.attempts.items k c.end_attempt.new.pending) j k b o.packet a c.in-Ended.came c.end_attempt.result c.self.invariant shut

pub returns-in_ok-text-in-Inbox-clause-happened : goal.returns-in_ok-text-in-Inbox-clause-happened
returns-in_ok-text-in-Inbox-clause-happened g c =
    let w = c.self.inside in
    let j = c.args.reply in
    let b = c.in-Some.answer.now in
    let got = c.in-Some.ensures.lookup in
    let sent : slice_get w.replies.items j ≡ Some b = ap (λ xs. slice_get xs j) (sym c.deref.ensures.value) ∙ index_is c.deref.result.now j b got.3.0 got.1 in
    let k = c.in-Some-open_attempt.number in
    let o = subst (λ ps. IsOpenOf w.requests.items ps b.request k) c.deref-3.ensures.value (subst (λ qs. IsOpenOf qs c.deref-3.result.now b.request k) c.deref-2.ensures.value c.in-Some-open_attempt.ensures.some) in
    let a = c.index_mut-pending.result.now in
    let there = index_is w.attempts.items k a (slice_get_within w.attempts.items k o.attempt o.there) c.index_mut-pending.ensures.value in
    let back = back_of w.requests.items w.replies.items w.attempts.items j k b sent o a there in
    let first = index_is w.attempts.items k c.index.result.now (slice_get_within w.attempts.items k o.attempt o.there) c.index.ensures in
    let heard = heard_by c.index.result.now a c.deref-4.result.now b.text.items c.in_ok-inbox.field-0 (Inbox c.in-Inbox.inbox) (some_is c.index.result.now a (sym first ∙ there)) c.deref-4.ensures.value c.in-Inbox.is c.in_ok-inbox.ensures in
    let post : Packet = record { attempt = k; to = c.in-Inbox.inbox; text = c.in_ok-text-in-Inbox.text } in
    let is = subst (λ ps. IsPost {P = g.row.P.Denot} w.seats.items ps k c.in-Inbox.inbox post.text.items) c.deref-in-Inbox-2.ensures.value
    (subst (λ ss. IsPost {P = g.row.P.Denot} ss c.deref-in-Inbox-2.result.now k c.in-Inbox.inbox post.text.items) c.deref-in-Inbox.ensures.value c.in_ok-text-in-Inbox.ensures) in
    let moved : IsMoved {P = g.row.P.Denot} w.seats.items w.requests.items w.replies.items w.attempts.items j k b o.packet a c.in-Inbox.inbox post = record { back = back; heard = heard; is = is; mine = refl; to = refl } in
    let more = c.push_reserved.ensures.items ∙ ap (λ xs. xs ++ post ∷ []) c.in_ok-reserve-in-Inbox.ensures.items in
    let count : c.len-request.result ≡ length w.requests.items = let e = c.len-request.ensures in omega (arith, e) in
    let later = slice_set w.attempts.items k (posting a c.len-request.result) in
    let later_is = ap (λ n. slice_set w.attempts.items k (posting a n)) count in
    happens_moved (limits g.P.Keeper.growth g.P.Keeper.room) g.P.Keeper.shown w.moment w.seats.items w.requests.items c.push_reserved.new.self.items w.replies.items w.attempts.items later j k c.len-request.result b o.packet a c.in-Inbox.inbox post c.args.self.now c.self.view_is count c.self.invariant moved more later_is

pub returns-in_ok-text-in-Inbox-clause-causes : goal.returns-in_ok-text-in-Inbox-clause-causes
returns-in_ok-text-in-Inbox-clause-causes g c =
    let w = c.self.inside in
    let j = c.args.reply in
    let b = c.in-Some.answer.now in
    let got = c.in-Some.ensures.lookup in
    let sent : slice_get w.replies.items j ≡ Some b = ap (λ xs. slice_get xs j) (sym c.deref.ensures.value) ∙ index_is c.deref.result.now j b got.3.0 got.1 in
    let k = c.in-Some-open_attempt.number in
    let o = subst (λ ps. IsOpenOf w.requests.items ps b.request k) c.deref-3.ensures.value (subst (λ qs. IsOpenOf qs c.deref-3.result.now b.request k) c.deref-2.ensures.value c.in-Some-open_attempt.ensures.some) in
    let back = back_of w.requests.items w.replies.items w.attempts.items j k b sent o o.attempt o.there in
    reached_causes w.moment w.seats.items w.requests.items w.replies.items w.attempts.items j k b o.packet o.attempt (Moved c.len-request.result) c.args.self.now.world (ap (λ s. s.world) c.self.view_is) back

pub returns-after-end_attempt-clause-happened : goal.returns-after-end_attempt-clause-happened
returns-after-end_attempt-clause-happened g c =
    let w = c.self.inside in
    let j = c.args.reply in
    let b = c.in-Some.answer.now in
    let got = c.in-Some.ensures.lookup in
    let sent : slice_get w.replies.items j ≡ Some b = ap (λ xs. slice_get xs j) (sym c.deref.ensures.value) ∙ index_is c.deref.result.now j b got.3.0 got.1 in
    let k = c.in-Some-open_attempt.number in
    let o = subst (λ ps. IsOpenOf w.requests.items ps b.request k) c.deref-3.ensures.value (subst (λ qs. IsOpenOf qs c.deref-3.result.now b.request k) c.deref-2.ensures.value c.in-Some-open_attempt.ensures.some) in
    let a = c.index_mut-pending-in-Ended.result.now in
    let there = index_is w.attempts.items k a (slice_get_within w.attempts.items k o.attempt o.there) c.index_mut-pending-in-Ended.ensures.value in
    let back = back_of w.requests.items w.replies.items w.attempts.items j k b sent o a there in
    let m = c.index_mut-seat.result.now in
    let at = index_is w.seats.items a.server m (server_there w.moment w.seats.items w.requests.items w.replies.items w.attempts.items k a c.self.invariant there back.open_yet) c.index_mut-seat.ensures.value in
    let first = index_is w.attempts.items k c.index.result.now (slice_get_within w.attempts.items k o.attempt o.there) c.index.ensures in
    let heard = heard_by c.index.result.now a c.deref-4.result.now b.text.items c.in_ok-inbox.field-0 (Ended c.in-Ended.came) (some_is c.index.result.now a (sym first ∙ there)) c.deref-4.ensures.value c.in-Ended.is c.in_ok-inbox.ensures in
    elim c.match-end_attempt.branch [
      | in-Ok v ↦
          let shut : IsShut (limits g.P.Keeper.growth g.P.Keeper.room) g.P.Keeper.shown w.moment w.seats.items (slice_set w.seats.items a.server c.end_attempt.new.seat) w.requests.items w.replies.items w.attempts.items (slice_set w.attempts.items k c.end_attempt.new.pending) j k b o.packet a c.in-Ended.came (Ok tt) = record {
            back = back;
            heard = heard;
            is = over_by (limits g.P.Keeper.growth g.P.Keeper.room) g.P.Keeper.shown w.moment w.seats.items w.attempts.items k a c.end_attempt.new.pending c.in-Ended.came c.in-Ended.came m c.end_attempt.new.seat (Ok tt) refl at c.end_attempt.ensures.over c.end_attempt.ensures.fit c.end_attempt.ensures.stand v.in-Ok.ensures.ends;
          } in
          subst (λ r. IfOk r (λ what. Happens (limits g.P.Keeper.growth g.P.Keeper.room) c.args.self.now (Reach j) what (scene_of g.P.Keeper.shown w.moment (slice_set w.seats.items a.server c.end_attempt.new.seat) w.requests.items w.replies.items (slice_set w.attempts.items k c.end_attempt.new.pending)))) (sym v.result-is) (happens_shut (limits g.P.Keeper.growth g.P.Keeper.room) g.P.Keeper.shown w.moment w.seats.items (slice_set w.seats.items a.server c.end_attempt.new.seat) w.requests.items w.replies.items w.attempts.items (slice_set w.attempts.items k c.end_attempt.new.pending) j k b o.packet a c.in-Ended.came c.args.self.now c.self.view_is c.self.invariant shut)
      | in-Err v ↦ subst (λ r. IfOk r (λ what. Happens (limits g.P.Keeper.growth g.P.Keeper.room) c.args.self.now (Reach j) what (scene_of g.P.Keeper.shown w.moment (slice_set w.seats.items a.server c.end_attempt.new.seat) w.requests.items w.replies.items (slice_set w.attempts.items k c.end_attempt.new.pending)))) (sym v.result-is) tt
    ]

pub returns-after-end_attempt-clause-left : goal.returns-after-end_attempt-clause-left
returns-after-end_attempt-clause-left g c =
    let w = c.self.inside in
    let j = c.args.reply in
    let b = c.in-Some.answer.now in
    let got = c.in-Some.ensures.lookup in
    let sent : slice_get w.replies.items j ≡ Some b = ap (λ xs. slice_get xs j) (sym c.deref.ensures.value) ∙ index_is c.deref.result.now j b got.3.0 got.1 in
    let k = c.in-Some-open_attempt.number in
    let o = subst (λ ps. IsOpenOf w.requests.items ps b.request k) c.deref-3.ensures.value (subst (λ qs. IsOpenOf qs c.deref-3.result.now b.request k) c.deref-2.ensures.value c.in-Some-open_attempt.ensures.some) in
    let a = c.index_mut-pending-in-Ended.result.now in
    let there = index_is w.attempts.items k a (slice_get_within w.attempts.items k o.attempt o.there) c.index_mut-pending-in-Ended.ensures.value in
    let back = back_of w.requests.items w.replies.items w.attempts.items j k b sent o a there in
    let m = c.index_mut-seat.result.now in
    let at = index_is w.seats.items a.server m (server_there w.moment w.seats.items w.requests.items w.replies.items w.attempts.items k a c.self.invariant there back.open_yet) c.index_mut-seat.ensures.value in
    let first = index_is w.attempts.items k c.index.result.now (slice_get_within w.attempts.items k o.attempt o.there) c.index.ensures in
    let heard = heard_by c.index.result.now a c.deref-4.result.now b.text.items c.in_ok-inbox.field-0 (Ended c.in-Ended.came) (some_is c.index.result.now a (sym first ∙ there)) c.deref-4.ensures.value c.in-Ended.is c.in_ok-inbox.ensures in
    elim c.match-end_attempt.branch [
      | in-Ok v ↦ subst (λ r. IfErr r (λ fault. Leaves (limits g.P.Keeper.growth g.P.Keeper.room) fault c.args.self.now (Reach j) (scene_of g.P.Keeper.shown w.moment (slice_set w.seats.items a.server c.end_attempt.new.seat) w.requests.items w.replies.items (slice_set w.attempts.items k c.end_attempt.new.pending)))) (sym v.result-is) tt
      | in-Err v ↦
          let shut : IsShut (limits g.P.Keeper.growth g.P.Keeper.room) g.P.Keeper.shown w.moment w.seats.items (slice_set w.seats.items a.server c.end_attempt.new.seat) w.requests.items w.replies.items w.attempts.items (slice_set w.attempts.items k c.end_attempt.new.pending) j k b o.packet a c.in-Ended.came (Err v.in-Err.fault) = record {
            back = back;
            heard = heard;
            is = over_by (limits g.P.Keeper.growth g.P.Keeper.room) g.P.Keeper.shown w.moment w.seats.items w.attempts.items k a c.end_attempt.new.pending c.in-Ended.came c.in-Ended.came m c.end_attempt.new.seat (Err v.in-Err.fault) refl at c.end_attempt.ensures.over c.end_attempt.ensures.fit c.end_attempt.ensures.stand v.in-Err.ensures.ends;
          } in
          subst (λ r. IfErr r (λ fault. Leaves (limits g.P.Keeper.growth g.P.Keeper.room) fault c.args.self.now (Reach j) (scene_of g.P.Keeper.shown w.moment (slice_set w.seats.items a.server c.end_attempt.new.seat) w.requests.items w.replies.items (slice_set w.attempts.items k c.end_attempt.new.pending)))) (sym v.result-is) (leaves_shut (limits g.P.Keeper.growth g.P.Keeper.room) g.P.Keeper.shown w.moment w.seats.items (slice_set w.seats.items a.server c.end_attempt.new.seat) w.requests.items w.replies.items w.attempts.items (slice_set w.attempts.items k c.end_attempt.new.pending) j k b o.packet a c.in-Ended.came v.in-Err.fault c.args.self.now c.self.view_is c.self.invariant shut)
    ]

pub returns-after-end_attempt-clause-causes : goal.returns-after-end_attempt-clause-causes
returns-after-end_attempt-clause-causes g c =
    let w = c.self.inside in
    let j = c.args.reply in
    let b = c.in-Some.answer.now in
    let got = c.in-Some.ensures.lookup in
    let sent : slice_get w.replies.items j ≡ Some b = ap (λ xs. slice_get xs j) (sym c.deref.ensures.value) ∙ index_is c.deref.result.now j b got.3.0 got.1 in
    let k = c.in-Some-open_attempt.number in
    let o = subst (λ ps. IsOpenOf w.requests.items ps b.request k) c.deref-3.ensures.value (subst (λ qs. IsOpenOf qs c.deref-3.result.now b.request k) c.deref-2.ensures.value c.in-Some-open_attempt.ensures.some) in
    let a = c.index_mut-pending-in-Ended.result.now in
    let there = index_is w.attempts.items k a (slice_get_within w.attempts.items k o.attempt o.there) c.index_mut-pending-in-Ended.ensures.value in
    let back = back_of w.requests.items w.replies.items w.attempts.items j k b sent o a there in
    let m = c.index_mut-seat.result.now in
    let at = index_is w.seats.items a.server m (server_there w.moment w.seats.items w.requests.items w.replies.items w.attempts.items k a c.self.invariant there back.open_yet) c.index_mut-seat.ensures.value in
    let first = index_is w.attempts.items k c.index.result.now (slice_get_within w.attempts.items k o.attempt o.there) c.index.ensures in
    let heard = heard_by c.index.result.now a c.deref-4.result.now b.text.items c.in_ok-inbox.field-0 (Ended c.in-Ended.came) (some_is c.index.result.now a (sym first ∙ there)) c.deref-4.ensures.value c.in-Ended.is c.in_ok-inbox.ensures in
    elim c.match-end_attempt.branch [
      | in-Ok v ↦ subst (λ r. AreCaused c.args.self.now.world (Reach j) r) (sym v.result-is) (reached_causes w.moment w.seats.items w.requests.items w.replies.items w.attempts.items j k b o.packet a (Recorded c.in-Ended.came) c.args.self.now.world (ap (λ s. s.world) c.self.view_is) back)
      | in-Err v ↦
          let shut : IsShut (limits g.P.Keeper.growth g.P.Keeper.room) g.P.Keeper.shown w.moment w.seats.items (slice_set w.seats.items a.server c.end_attempt.new.seat) w.requests.items w.replies.items w.attempts.items (slice_set w.attempts.items k c.end_attempt.new.pending) j k b o.packet a c.in-Ended.came (Err v.in-Err.fault) = record {
            back = back;
            heard = heard;
            is = over_by (limits g.P.Keeper.growth g.P.Keeper.room) g.P.Keeper.shown w.moment w.seats.items w.attempts.items k a c.end_attempt.new.pending c.in-Ended.came c.in-Ended.came m c.end_attempt.new.seat (Err v.in-Err.fault) refl at c.end_attempt.ensures.over c.end_attempt.ensures.fit c.end_attempt.ensures.stand v.in-Err.ensures.ends;
          } in
          subst (λ r. AreCaused c.args.self.now.world (Reach j) r) (sym v.result-is) (shut_causes (limits g.P.Keeper.growth g.P.Keeper.room) g.P.Keeper.shown w.moment w.seats.items (slice_set w.seats.items a.server c.end_attempt.new.seat) w.requests.items w.replies.items w.attempts.items (slice_set w.attempts.items k c.end_attempt.new.pending) j k b o.packet a c.in-Ended.came v.in-Err.fault c.args.self.now.world (ap (λ s. s.world) c.self.view_is) shut)
    ]
