use Rattle.std.proofs.Common.{refl, rules, take}
use Rattle.fedi_index.proofs.Again.{followed_again, follower_again, neither}
use Rattle.fedi_visible.specs.Places.{is_same_seen}
use Rattle.fedi_visible.proofs.Listed.{none_again}
use Rattle.fedi_index.proofs.pages.comes_again.Goals as goal

pub returns-in-Followers : goal.returns-in-Followers
returns-in-Followers c =
    let t = c.args.facts.now.town in
    c.is_related_before.ensures (is_same_seen t c.args.caller.now c.args.which.now c.args.owner.now c.args.act.now) (search rules)
    (rw (c.author.ensures, c.text.ensures.value) (follower_again t c.args.caller.now c.args.which.now _ c.args.owner.now c.args.act.now c.in-Followers.is))

pub returns-in-Following : goal.returns-in-Following
returns-in-Following c =
    let t = c.args.facts.now.town in
    c.is_related_before-in-Following.ensures (is_same_seen t c.args.caller.now c.args.which.now c.args.owner.now c.args.act.now) (search rules)
    (rw c.object_key.ensures (followed_again t c.args.caller.now c.args.which.now _ c.args.owner.now c.args.act.now c.in-Following.is))

pub returns-in_default : goal.returns-in_default
returns-in_default c =
    none_again c.args.facts.now.town c.args.caller.now c.args.which.now c.args.owner.now c.args.act.now (take c.args.place c.args.facts.now.town.acts) _
    (neither c.args.which.now c.in_default.not-Followers c.in_default.not-Following) refl
