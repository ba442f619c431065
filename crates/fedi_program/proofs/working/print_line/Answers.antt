use Rattle.std.proofs.Common.{inl}
use Rattle.fedi_program.proofs.working.print_line.Goals as goal

pub returns-in-Ok-clause-printed : goal.returns-in-Ok-clause-printed
returns-in-Ok-clause-printed g c = inl (rw (c.deref.ensures.value, c.in-Ok.ensures.counted) at c.print.ensures)
