use Rattle.std.proofs.Common.{arith}
use Rattle.fedi_register.proofs.Counts.{nothing_indexed}
use Rattle.fedi_register.proofs.register.Register.empty.Goals as goal

pub invariant_of-result : goal.invariant_of-result
invariant_of-result c = (
  rw (c.new.ensures.items, c.empty.ensures, c.empty-2.ensures, c.empty-3.ensures, c.empty-4.ensures, c.empty-5.ensures, c.empty-6.ensures, c.empty-7.ensures) (nothing_indexed c.args.seed),
  omega (arith, c.new.ensures.len),
  omega (arith, c.new.ensures.len),
  omega arith,
  omega arith,
  omega arith,
  omega arith,
  omega arith,
  omega arith,
)
