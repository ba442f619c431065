use Rattle.std.proofs.Common.{arith, refl}
use Rattle.fedi_effects.proofs.members.Members.empty.Goals as goal

pub invariant_of-result : goal.invariant_of-result
invariant_of-result c = (
  rw (c.new.ensures.items, c.empty.ensures) refl,
  rw (c.new.ensures.items, c.empty-2.ensures) refl,
  rw (c.new.ensures.items, c.empty-3.ensures) refl,
  omega (arith, c.new.ensures.len),
  omega (arith, c.new.ensures.len),
  omega arith,
  omega arith,
  omega arith,
)
