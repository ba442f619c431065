use Rattle.std.proofs.Common.{◌∙◌, List, ap, refl, rules, ℕ}
use Rattle.fedi_register.specs.Changes.{is_unended}
use Rattle.fedi_register.specs.Seeds.{mark_of_pair}
use Rattle.fedi_register.specs.Registers.{relates, relates_by_key, relation_mark}
use Rattle.fedi_register.proofs.Edited.{unended_relates}
use Rattle.fedi_register.proofs.Found.{placed}
use Rattle.fedi_register.proofs.Places.{marked_narrower, relation_marked}
use Rattle.fedi_register.proofs.applying.unended_follow.Goals as goal

pub returns : goal.returns
returns c =
    let a = c.args.follower.now in
    let b = c.args.followee.now in
    let s = c.args.state in
    placed relates (is_unended a b s) (relation_mark c.args.seed.now) _ _ _ _ _ _ (c.position_of.ensures (is_unended a b s) (search rules)) refl (c.mark_of_pair-mark.ensures ∙ ap (λ (text : List ℕ). mark_of_pair c.args.seed.now a text) c.text.ensures.value) c.requires
    (marked_narrower relates (relates_by_key a b) (is_unended a b s) (relation_mark c.args.seed.now) (mark_of_pair c.args.seed.now a b) (relation_marked c.args.seed.now a b) (unended_relates a b s))
