use Rattle.std.proofs.Common.{rules}
use Rattle.fedi_town.specs.Relations.{has_activity_id}
use Rattle.fedi_register.specs.Registers.{has_own_id, own_mark}
use Rattle.fedi_register.proofs.Found.{found}
use Rattle.fedi_register.proofs.Places.{own_marked}
use Rattle.fedi_register.proofs.register.Register.activity.Goals as goal

pub returns : goal.returns
returns c =
    let seed = c.self.inside.seed in
    let id = c.args.id.now in
    rw (← c.self.view_is)
    (found has_own_id (has_activity_id id) (own_mark seed) _ _ _ _ _ _ (c.first_of.ensures (has_activity_id id) (search rules)) c.deref.ensures.value c.mark_of_iri.ensures c.self.invariant.0.id (own_marked seed id))
