use Rattle.std.proofs.Common.{◌∙◌, List, ap, map}
use Rattle.fedi_objects.specs.declared.kind.State.TheVariants.{Undone}
use Rattle.fedi_town.specs.declared.act.Act.{Act}
use Rattle.fedi_town.specs.Effects.{end_follow}
use Rattle.fedi_register.proofs.Edited.{both_ended}
use Rattle.fedi_register.proofs.applying.end_both.Goals as goal

pub returns : goal.returns
returns c =
    let a = c.args.author.now in
    let b = c.args.other.now in
    c.end_follows-2.ensures.acts ∙ ap (λ (acts : List Act). map (end_follow a b Undone) acts) c.end_follows.ensures.acts ∙ both_ended a b c.args.acts.now
