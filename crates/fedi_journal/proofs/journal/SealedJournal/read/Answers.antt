use Rattle.std.proofs.Common.{ap, ◌∙◌, arith, sym}
use Rattle.fedi_outside.proofs.ImageSteps.{of_some}
use Rattle.fedi_outside.specs.Disks.{LeavesOnly}
use Rattle.fedi_journal.proofs.FindingSteps.{found_known, opened_records}
use Rattle.fedi_journal.proofs.journal.SealedJournal.read.Goals as goal

pub invariant_of-result : goal.invariant_of-result
invariant_of-result g c =
    let disk = c.find_gates.new.disk.disk in
    record {
      room = λ some. absurd (omega arith);
      known = found_known g.S.Seal.format g.met.S.Seal.is_format (g.D.Disk.shown disk) (g.D.Disk.crashes disk) c.in-Ok.end c.in-Ok.gates.items
          (λ bytes is. c.in-Ok.ensures.found bytes (sym c.find_gates.ensures.same.reads ∙ is)) (of_some (g.D.Disk.shown disk).reads (LeavesOnly (g.D.Disk.crashes disk)) c.in-Ok.ensures.only)
          c.in-Ok.ensures.apart c.in-Ok.ensures.inside c.in-Ok.ensures.fits;
      sealed = λ bytes is. c.in-Ok.ensures.sealed bytes (sym c.find_gates.ensures.same.reads ∙ is);
    }

pub returns-in-Ok-clause-found : goal.returns-in-Ok-clause-found
returns-in-Ok-clause-found g c = λ bytes is.
    let told = ap (λ disk. (g.D.Disk.shown disk).reads) c.over-ahead.ensures ∙ is in
    let found = c.in-Ok.ensures.found bytes told in
    (found.0, found.1, opened_records g.S.Seal.format g.met.S.Seal.is_format (g.D.Disk.shown c.find_gates.new.disk.disk) c.in-Ok.gates.items bytes c.in-Ok.end (c.find_gates.ensures.same.reads ∙ told) found, found.2)

pub returns-in-Ok-clause-only : goal.returns-in-Ok-clause-only
returns-in-Ok-clause-only g c = λ bytes is.
    let told = ap (λ disk. (g.D.Disk.shown disk).reads) c.over-ahead.ensures ∙ is in
    let disk = c.find_gates.new.disk.disk in
    of_some (g.D.Disk.shown disk).reads (LeavesOnly (g.D.Disk.crashes disk)) c.in-Ok.ensures.only bytes (c.find_gates.ensures.same.reads ∙ told)
