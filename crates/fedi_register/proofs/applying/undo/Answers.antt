use Rattle.std.proofs.Common.{refl}
use Rattle.fedi_objects.specs.declared.kind.State.TheVariants.{Undone}
use Rattle.fedi_town.specs.Effects.{in_state, is_standing_activity}
use Rattle.fedi_register.specs.Changes.{undo_one}
use Rattle.fedi_register.specs.Registers.{has_own_id, own_mark}
use Rattle.fedi_register.proofs.Edited.{undo_ends, editing, editing_on, editing_over, fewer_left, ids_steady}
use Rattle.fedi_register.proofs.applying.undo.Goals as goal

pub loop-place-init : goal.loop-place-init
loop-place-init c = editing _ _ _ _ _ _ c.requires

pub loop-place-preserved : goal.loop-place-preserved
loop-place-preserved c =
    let id = c.args.activity.now in
    editing_on (is_standing_activity id) (in_state Undone) has_own_id (own_mark c.args.seed.now) _ _ _ _ c.in-Some.place (undo_ends id) (ids_steady c.args.seed.now Undone) c.loop-place.invariant c.in-Some.ensures
    c.set_state_at.ensures

pub loop-place-smaller : goal.loop-place-smaller
loop-place-smaller c =
    let id = c.args.activity.now in fewer_left (is_standing_activity id) (in_state Undone) _ _ c.in-Some.place (undo_ends id) c.in-Some.ensures c.set_state_at.ensures

pub returns : goal.returns
unfolding undo_one
returns c =
    let id = c.args.activity.now in
    editing_over (is_standing_activity id) (in_state Undone) has_own_id (own_mark c.args.seed.now) _ _ _ c.loop-place.invariant (rw (← c.standing_activity.ensures, c.in_default.is) refl)
