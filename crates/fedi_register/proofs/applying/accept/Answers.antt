use Rattle.std.proofs.Common.{refl}
use Rattle.fedi_objects.specs.declared.kind.State.TheVariants.{Accepted}
use Rattle.fedi_town.specs.Effects.{in_state, is_pending_follow}
use Rattle.fedi_register.specs.Changes.{accept_one}
use Rattle.fedi_register.specs.Registers.{has_own_id, own_mark}
use Rattle.fedi_register.proofs.Edited.{accept_ends, editing, editing_on, editing_over, fewer_left, ids_steady}
use Rattle.fedi_register.proofs.applying.accept.Goals as goal

pub loop-place-init : goal.loop-place-init
loop-place-init c = editing _ _ _ _ _ _ c.requires

pub loop-place-preserved : goal.loop-place-preserved
loop-place-preserved c =
    let id = c.args.follow.now in
    editing_on (is_pending_follow id) (in_state Accepted) has_own_id (own_mark c.args.seed.now) _ _ _ _ c.in-Some.place (accept_ends id) (ids_steady c.args.seed.now Accepted) c.loop-place.invariant c.in-Some.ensures
    c.set_state_at.ensures

pub loop-place-smaller : goal.loop-place-smaller
loop-place-smaller c =
    let id = c.args.follow.now in fewer_left (is_pending_follow id) (in_state Accepted) _ _ c.in-Some.place (accept_ends id) c.in-Some.ensures c.set_state_at.ensures

pub returns : goal.returns
unfolding accept_one
returns c =
    let id = c.args.follow.now in
    editing_over (is_pending_follow id) (in_state Accepted) has_own_id (own_mark c.args.seed.now) _ _ _ c.loop-place.invariant (rw (← c.pending_follow.ensures, c.in_default.is) refl)
