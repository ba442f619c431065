use Rattle.std.proofs.Common.{◌∙◌, ap, refl, rules}
use Rattle.fedi_effects.specs.Tallies.{is_tally_of, tally_mark}
use Rattle.fedi_effects.proofs.Tallying.{tally_marked}
use Rattle.fedi_effects.proofs.tallies.position_of.Goals as goal
use Rattle.fedi_register.proofs.Found.{placed}
use Rattle.fedi_register.specs.Marks.{every}
use Rattle.fedi_register.specs.Seeds.{mark_of_pair}

pub returns : goal.returns
returns c =
    let seed = c.args.seed.now in
    let id = c.args.id.now in
    let recipient = c.args.recipient.now in
    placed every (is_tally_of id recipient) (tally_mark seed) _ _ _ _ _ _ (c.position_of.ensures (is_tally_of id recipient) (search rules)) refl
    (c.mark_of_pair.ensures ∙ ap (mark_of_pair seed id) c.text.ensures.value) c.requires (tally_marked seed id recipient)
