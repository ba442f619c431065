use Rattle.std.proofs.Common.{refl, rules}
use Rattle.fedi_town.specs.Effects.{is_standing_activity}
use Rattle.fedi_town.specs.Relations.{has_activity_id}
use Rattle.fedi_register.specs.Seeds.{mark_of}
use Rattle.fedi_register.specs.Registers.{has_own_id, own_mark}
use Rattle.fedi_register.proofs.Edited.{standing_named}
use Rattle.fedi_register.proofs.Found.{placed}
use Rattle.fedi_register.proofs.Places.{marked_narrower, own_marked}
use Rattle.fedi_register.proofs.applying.standing_activity.Goals as goal

pub returns : goal.returns
returns c =
    let id = c.args.id.now in
    placed has_own_id (is_standing_activity id) (own_mark c.args.seed.now) _ _ _ _ _ _ (c.position_of.ensures (is_standing_activity id) (search rules)) refl c.mark_of_iri.ensures c.requires
    (marked_narrower has_own_id (has_activity_id id) (is_standing_activity id) (own_mark c.args.seed.now) (mark_of c.args.seed.now id) (own_marked c.args.seed.now id) (standing_named id))
