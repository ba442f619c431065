use Rattle.std.proofs.Common.{refl, rules}
use Rattle.fedi_town.specs.Objects.{makes}
use Rattle.fedi_town.specs.Seeing.{sees_as}
use Rattle.fedi_effects.proofs.Finds.{find_as}
use Rattle.fedi_effects.proofs.rules.seen_maker.Goals as goal

pub returns : goal.returns
returns c =
    let town = c.args.facts.now.town in
    let author = c.args.author.now in
    find_as town (makes c.args.id.now) author _ _ (c.first_maker.ensures (sees_as town author) (search rules)) refl
