use Rattle.std.proofs.Common.{refl, rules}
use Rattle.fedi_town.specs.Relations.{has_activity_id}
use Rattle.fedi_register.specs.Registers.{has_own_id, own_mark}
use Rattle.fedi_register.proofs.Found.{placed}
use Rattle.fedi_register.proofs.Places.{own_marked}
use Rattle.fedi_register.proofs.applying.position_of_id.Goals as goal

pub returns : goal.returns
returns c =
    let id = c.args.id.now in
    placed has_own_id (has_activity_id id) (own_mark c.args.seed.now) _ _ _ _ _ _ (c.position_of.ensures (has_activity_id id) (search rules)) refl c.mark_of_iri.ensures c.requires (own_marked c.args.seed.now id)
