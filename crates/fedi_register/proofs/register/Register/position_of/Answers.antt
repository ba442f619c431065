use Rattle.fedi_register.proofs.register.Register.position_of.Goals as goal

pub position_of_id-requires : goal.position_of_id-requires
position_of_id-requires c = rw c.deref.ensures.value c.self.invariant.0.id
