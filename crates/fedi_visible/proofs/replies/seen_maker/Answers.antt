use Rattle.std.proofs.Common.{refl, rules}
use Rattle.fedi_town.specs.Objects.{makes}
use Rattle.fedi_town.specs.Seeing.{sees}
use Rattle.fedi_effects.proofs.Finds.{find_seen}
use Rattle.fedi_visible.proofs.replies.seen_maker.Goals as goal

pub returns : goal.returns
returns c =
    let sees_it = sees c.args.facts.now.town c.args.caller.now in
    find_seen (makes c.args.id.now) sees_it _ _ _ (c.first_maker.ensures sees_it (search rules)) refl
