use Rattle.std.proofs.Common.{rules}
use Rattle.fedi_town.specs.Objects.{makes}
use Rattle.fedi_register.specs.Registers.{is_making, object_mark}
use Rattle.fedi_register.proofs.Found.{found}
use Rattle.fedi_register.proofs.Places.{made_marked}
use Rattle.fedi_register.proofs.register.Register.maker.Goals as goal

pub returns : goal.returns
returns c =
    let seed = c.self.inside.seed in
    let id = c.args.id.now in
    rw (← c.self.view_is)
    (found is_making (makes id) (object_mark seed) _ _ _ _ _ _ (c.first_of.ensures (makes id) (search rules)) c.deref.ensures.value c.mark_of_iri.ensures c.self.invariant.0.object (made_marked seed id))
