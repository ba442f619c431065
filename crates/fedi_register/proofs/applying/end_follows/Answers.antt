use Rattle.std.proofs.Common.{◌∙◌, refl}
use Rattle.fedi_town.specs.Effects.{in_state}
use Rattle.fedi_register.specs.Changes.{is_unended}
use Rattle.fedi_register.specs.Registers.{relates, relation_mark}
use Rattle.fedi_register.proofs.Edited.{all_ended, editing, editing_on, editing_over, fewer_left, follows_end, relations_steady}
use Rattle.fedi_register.proofs.applying.end_follows.Goals as goal

pub loop-place-init : goal.loop-place-init
loop-place-init c = editing _ _ _ _ _ _ c.requires

pub loop-place-preserved : goal.loop-place-preserved
loop-place-preserved c =
    let a = c.args.follower.now in
    let b = c.args.followee.now in
    let s = c.args.state in
    editing_on (is_unended a b s) (in_state s) relates (relation_mark c.args.seed.now) _ _ _ _ c.in-Some.place (follows_end a b s) (relations_steady c.args.seed.now s) c.loop-place.invariant c.in-Some.ensures
    c.set_state_at.ensures

pub loop-place-smaller : goal.loop-place-smaller
loop-place-smaller c =
    let a = c.args.follower.now in
    let b = c.args.followee.now in
    let s = c.args.state in
    fewer_left (is_unended a b s) (in_state s) _ _ c.in-Some.place (follows_end a b s) c.in-Some.ensures c.set_state_at.ensures

pub returns-clause-acts : goal.returns-clause-acts
returns-clause-acts c =
    let a = c.args.follower.now in
    let b = c.args.followee.now in
    let s = c.args.state in
    editing_over (is_unended a b s) (in_state s) relates (relation_mark c.args.seed.now) _ _ _ c.loop-place.invariant (rw (← c.unended_follow.ensures, c.in_default.is) refl)
    ∙ all_ended a b s c.args.acts.now

pub returns-clause-marks : goal.returns-clause-marks
returns-clause-marks c = c.loop-place.invariant.kept
