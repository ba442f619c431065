use Rattle.std.proofs.Common.{inl}
use Rattle.fedi_program.proofs.demonstrating.demo.Goals as goal

pub returns-in-Ok : goal.returns-in-Ok
returns-in-Ok g c = inl (c.in-Ok.text.items, c.in-Ok.ensures, rw c.deref.ensures.value at c.print.ensures)
