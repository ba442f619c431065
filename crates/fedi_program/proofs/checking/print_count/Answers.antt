use Rattle.std.proofs.Common.{inl}
use Rattle.fedi_report.specs.Reports.{check_text}
use Rattle.fedi_program.proofs.checking.print_count.Goals as goal

pub returns-in-Ok : goal.returns-in-Ok
returns-in-Ok g c = λ history is.
    let same = c.in-Ok.ensures (check_text history) is in
    inl (rw (c.deref.ensures.value, same) at c.print.ensures)
