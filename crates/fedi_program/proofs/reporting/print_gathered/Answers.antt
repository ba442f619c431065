use Rattle.std.proofs.Common.{inr, ◌∙◌}
use Rattle.fedi_program.proofs.reporting.print_gathered.Goals as goal

pub returns-in-Ok : goal.returns-in-Ok
returns-in-Ok g c t name rows actor =
    inr (c.in-Ok.all.actor, rw c.in-Ok.is at actor, rw c.text.ensures.value at c.print_selected.ensures t (c.deref.ensures.value ∙ rw c.in-Ok.is at rows))
