use Rattle.std.proofs.Common.{refl, rules}
use Rattle.fedi_town.specs.Objects.{makes}
use Rattle.fedi_register.specs.Registers.{is_making, object_mark}
use Rattle.fedi_register.proofs.Found.{placed}
use Rattle.fedi_register.proofs.Places.{made_marked}
use Rattle.fedi_register.proofs.applying.position_of.Goals as goal

pub returns : goal.returns
returns c =
    let id = c.args.object.now in
    placed is_making (makes id) (object_mark c.args.seed.now) _ _ _ _ _ _ (c.position_of.ensures (makes id) (search rules)) refl c.mark_of_iri.ensures c.requires (made_marked c.args.seed.now id)
