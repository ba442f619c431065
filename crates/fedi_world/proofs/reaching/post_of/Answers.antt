use Rattle.std.proofs.Common.{◌<◌, ◌^◌, Some, length, subst, sym}
use Rattle.std.proofs.lemmas.Option.{slice_get_within}
use Rattle.fedi_log.specs.Claims.{HasClaimed}
use Rattle.fedi_world.specs.Scenes.{attempt_of}
use Rattle.fedi_world.specs.Standing.{pair_at}
use Rattle.fedi_world.proofs.Reached.{claim_here, post_told, seat_here}
use Rattle.fedi_world.proofs.Spots.{index_is}
use Rattle.fedi_world.proofs.reaching.post_of.Goals as goal

pub inbox_post-text-requires : goal.inbox_post-text-requires
inbox_post-text-requires g c =
    let h = c.requires in
    let a = c.index-attempts-number.result in
    let there = index_is c.args.attempts.now c.args.number a (slice_get_within c.args.attempts.now c.args.number h.attempt h.there) c.index-attempts-number.is in
    let s = c.index-seats-pending.result in
    let at = index_is c.args.seats.now a.server s (seat_here c.args.seats.now c.args.attempts.now c.args.number a h there) c.index-seats-pending.is in
    let has = subst (λ k. HasClaimed (Some c.args.number) s.log (pair_at (attempt_of a)) k) (sym c.claim_of-claim.ensures) (claim_here c.args.seats.now c.args.attempts.now c.args.number a s h there at) in
    record { claimed = (Some c.args.number, (pair_at (attempt_of a), has)) }

pub returns : goal.returns
returns g c =
    let h = c.requires in
    let a = c.index-attempts-number.result in
    let there = index_is c.args.attempts.now c.args.number a (slice_get_within c.args.attempts.now c.args.number h.attempt h.there) c.index-attempts-number.is in
    let s = c.index-seats-pending.result in
    let at = index_is c.args.seats.now a.server s (seat_here c.args.seats.now c.args.attempts.now c.args.number a h there) c.index-seats-pending.is in
    let has = subst (λ k. HasClaimed (Some c.args.number) s.log (pair_at (attempt_of a)) k) (sym c.claim_of-claim.ensures) (claim_here c.args.seats.now c.args.attempts.now c.args.number a s h there at) in
    post_told c.args.seats.now c.args.attempts.now c.args.number c.args.inbox.now c.deref.result.now a s c.inbox_post-text.result there at c.deref.ensures.value c.deref.type_inv.0
    (c.inbox_post-text.ensures (Some c.args.number) (pair_at (attempt_of a)) has)
