use Rattle.std.proofs.Common.{arith, refl}
use Rattle.fedi_effects.proofs.Tallying.{none_tallied}
use Rattle.fedi_effects.proofs.tallies.Tallies.empty.Goals as goal

pub invariant_of-result : goal.invariant_of-result
invariant_of-result c = (
  rw (c.new.ensures.items, c.empty.ensures) refl,
  rw (c.new.ensures.items, c.new-2.ensures) none_tallied,
  rw c.new.ensures.items refl,
  omega (arith, c.new.ensures.len),
  omega (arith, c.new.ensures.len),
  omega arith,
)
