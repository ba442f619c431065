use Rattle.std.proofs.Common.{inl, inr}
use Rattle.fedi_program.proofs.enrolling.enroll.Goals as goal

pub returns-in-Ok-clause-ends : goal.returns-in-Ok-clause-ends
returns-in-Ok-clause-ends g c =
    λ text told.
    let same = rw c.in-Ok.ensures.line at told in
    inr (c.in-Ok.ensures.unbroken, c.in-Ok.ensures.kept, rw (c.deref.ensures.value, same) at c.print.ensures)

pub returns-in-Err-clause-ends : goal.returns-in-Err-clause-ends
returns-in-Err-clause-ends g c = λ text told. inl (c.in-Err.fault, c.in-Err.ensures.unmade, c.report_fault.ensures)
