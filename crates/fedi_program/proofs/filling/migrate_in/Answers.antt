use Rattle.std.proofs.Common.{length, inl, refl, ap, ◌∙◌}
use Rattle.fedi_journal.specs.ChainLaws.{chained_ok}
use Rattle.fedi_journal.specs.Chains.{chained}
use Rattle.fedi_journal.specs.Finding as journals
use Rattle.fedi_outside.proofs.ImageLemmas.{plain_ok}
use Rattle.fedi_outside.proofs.ImageSteps.{told_count}
use Rattle.fedi_outside.proofs.Untouched.{untouched_then}
use Rattle.fedi_outside.specs.Images.{plain}
use Rattle.fedi_startup.specs.Faults.{of_journal}
use Rattle.fedi_program.proofs.FillLemmas.{fills_store}
use Rattle.fedi_program.proofs.MigratingLemmas.{counts_read, in_chained, in_plain, not_read, older_plain}
use Rattle.fedi_program.proofs.filling.migrate_in.Goals as goal

pub returns-in-Ok-clause-moved : goal.returns-in-Ok-clause-moved
returns-in-Ok-clause-moved g c =
    let journal = c.in-Ok.journal in
    let left = c.fill_from-status.result.1 in
    rw c.into_disk.ensures.disk (fills_store chained in_chained _ _ _ _ _ _ _ _ _ c.in-Ok.ensures.found
    (told_count chained chained_ok (length journal.gates.items) (g.D.Disk.shown journal.disk)) c.in-Ok.ensures.faults refl
    (untouched_then (g.D.Disk.shown c.args.disk) (g.D.Disk.shown journal.disk) (g.D.Disk.shown left.disk)
    (g.D.Disk.crashes c.args.disk) (g.D.Disk.crashes journal.disk) (g.D.Disk.crashes left.disk) c.in-Ok.ensures.same c.fill_from-status.ensures.outside)
    c.fill_from-status.ensures.moved)

pub returns-in_default-clause-moved : goal.returns-in_default-clause-moved
returns-in_default-clause-moved g c = (
  c.in-Err.ensures.same,
  inl (
    of_journal c.in-Err.fault,
    not_read chained in_chained c.in-Err.fault (g.D.Disk.shown c.args.disk) c.in_default.not-OldFormat c.in-Err.ensures.damaged c.in-Err.ensures.store,
    c.in-Err.ensures.faults ∙ counts_read c.in-Err.fault (g.D.Disk.shown c.args.disk).faults,
    refl,
    rw c.into.ensures at c.report_store.ensures,
  ),
)

pub returns-in-Ok-read-clause-moved : goal.returns-in-Ok-read-clause-moved
returns-in-Ok-read-clause-moved g c =
    let begun = c.in-Err.disk in
    let journal = c.in-Ok-read.journal in
    let left = c.fill_from-status-in-Ok-read.result.1 in
    let old = c.args.disk in
    let calm = rw c.in-OldFormat.is at c.in-Err.ensures.faults in
    let read = untouched_then (g.D.Disk.shown old) (g.D.Disk.shown begun) (g.D.Disk.shown journal.disk) (g.D.Disk.crashes old) (g.D.Disk.crashes begun) (g.D.Disk.crashes journal.disk)
    c.in-Err.ensures.same c.in-Ok-read.ensures.same in
    rw c.into_disk-in-Ok-read.ensures.disk (fills_store plain in_plain _ _ _ _ _ _ _ _ _ (λ bytes is. c.in-Ok-read.ensures.found bytes (c.in-Err.ensures.same.reads ∙ is))
    (told_count plain plain_ok (length journal.gates.items) (g.D.Disk.shown journal.disk)) (c.in-Ok-read.ensures.faults ∙ calm) refl
    (untouched_then (g.D.Disk.shown old) (g.D.Disk.shown journal.disk) (g.D.Disk.shown left.disk) (g.D.Disk.crashes old) (g.D.Disk.crashes journal.disk) (g.D.Disk.crashes left.disk)
    read c.fill_from-status-in-Ok-read.ensures.outside) c.fill_from-status-in-Ok-read.ensures.moved)

pub returns-in_default-fault-clause-moved : goal.returns-in_default-fault-clause-moved
returns-in_default-fault-clause-moved g c =
    let old = c.args.disk in
    let begun = c.in-Err.disk in
    let after = c.in-Err-read.disk in
    let fault = c.in-Err-read.fault in
    let here = c.in-Err.ensures.same.reads in
    let calm = rw c.in-OldFormat.is at c.in-Err.ensures.faults in (
      untouched_then (g.D.Disk.shown old) (g.D.Disk.shown begun) (g.D.Disk.shown after) (g.D.Disk.crashes old) (g.D.Disk.crashes begun) (g.D.Disk.crashes after)
          c.in-Err.ensures.same c.in-Err-read.ensures.same,
      inl (
        of_journal fault,
        not_read plain in_plain fault (g.D.Disk.shown old) c.in_default-fault.not-OldFormat
            (λ place damaged bytes is. c.in-Err-read.ensures.damaged place damaged bytes (here ∙ is))
            (λ none bytes is. older_plain bytes (c.in-Err.ensures.older c.in-OldFormat.is bytes is) (c.in-Err-read.ensures.store none bytes (here ∙ is))),
        (c.in-Err-read.ensures.faults ∙ ap (journals.count_after fault) calm) ∙ counts_read fault (g.D.Disk.shown old).faults,
        refl,
        rw c.into-in_default-fault.ensures at c.report_store-in_default-fault.ensures,
      ),
    )
