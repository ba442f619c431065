use Rattle.std.proofs.Common.{subst, sym, ap}
use Rattle.fedi_register.specs.Changes.{AreMadeOnce}
use Rattle.fedi_register.proofs.Indexed.{indexed_affected}
use Rattle.fedi_register.proofs.register.Register.apply.Goals as goal

pub apply_in_place-requires-clause-once : goal.apply_in_place-requires-clause-once
apply_in_place-requires-clause-once c = subst AreMadeOnce (sym (ap (λ r. r.acts) c.self.view_is)) c.requires

pub apply_in_place-requires-clause-made : goal.apply_in_place-requires-clause-made
apply_in_place-requires-clause-made c = c.self.invariant.0.object

pub apply_in_place-requires-clause-ids : goal.apply_in_place-requires-clause-ids
apply_in_place-requires-clause-ids c = c.self.invariant.0.id

pub apply_in_place-requires-clause-pairs : goal.apply_in_place-requires-clause-pairs
apply_in_place-requires-clause-pairs c = c.self.invariant.0.pair

pub invariant_of-self : goal.invariant_of-self
invariant_of-self c = (
  rw c.apply_in_place.ensures.items (indexed_affected c.self.inside.seed c.args.effect _ _ _ _ _ _ _ _ c.self.invariant.0),
  rw (c.apply_in_place.ensures.len, c.apply_in_place.ensures.capacity) c.self.invariant.1,
  rw c.apply_in_place.ensures.len c.self.invariant.2,
  c.self.invariant.3,
  c.self.invariant.4,
  c.self.invariant.5,
  c.self.invariant.6,
  c.self.invariant.7,
  c.self.invariant.8,
)
