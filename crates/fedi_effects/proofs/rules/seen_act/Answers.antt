use Rattle.std.proofs.Common.{refl, rules}
use Rattle.fedi_town.specs.Relations.{has_activity_id}
use Rattle.fedi_town.specs.Seeing.{sees_as}
use Rattle.fedi_effects.proofs.Finds.{find_as}
use Rattle.fedi_effects.proofs.rules.seen_act.Goals as goal

pub returns : goal.returns
returns c =
    let town = c.args.facts.now.town in
    let author = c.args.author.now in
    find_as town (has_activity_id c.args.id.now) author _ _ (c.first_by_id.ensures (sees_as town author) (search rules)) refl
