use Rattle.std.proofs.Common.{length, inl, inr, refl}
use Rattle.fedi_logged.proofs.Hosted.{hosted}
use Rattle.fedi_town.specs.Histories.{town}
use Rattle.fedi_program.proofs.ReportLemmas.{reported_on_disk}
use Rattle.fedi_program.proofs.StoreLemmas.{over}
use Rattle.fedi_program.proofs.reporting.report_on_disk.Goals as goal

pub gather-gathered-requires : goal.gather-gathered-requires
gather-gathered-requires g c =
    let opens = c.in-Ok-open_store.ensures.opened in
    record { hosted = hosted c.in-Ok-open_store.core.history opens.some opens.sound.legal }

pub returns-in-Err : goal.returns-in-Err
returns-in-Err g c = inl (refl, refl, c.in-Err.ensures.refused)

pub returns-in-Ok-open_store : goal.returns-in-Ok-open_store
returns-in-Ok-open_store g c =
    let core = c.in-Ok-open_store.core in
    let opens = c.in-Ok-open_store.ensures in
    let closed = rw c.close_store-disk.ensures.disk at c.close_store-disk.ensures.closed in
    let text = c.print_gathered.ensures (town core.history) c.args.name.now c.gather-gathered.ensures.rows (rw c.in-Ok.ensures.read at c.gather-gathered.ensures.actor) in
    rw c.close_store-disk.ensures.disk (reported_on_disk _ _ _ _ _ _ _ _ _ _ _ _ c.in-Ok.ensures.name c.in-Ok.ensures.kind
    (over g.D.Disk g.met.D.Disk.only_now c.args.disk core.keeper.disk core.keeper.disk _ _
    (length core.keeper.gates.items) opens.opened refl opens.untouched opens.leaves closed) c.gather-gathered.ensures.crashes (rw c.in-Ok.ensures.same at text))

pub returns-in-Err-open_store : goal.returns-in-Err-open_store
returns-in-Err-open_store g c =
    inr (
      c.in-Ok.ensures.name,
      c.in-Ok.ensures.kind,
      inl (
        c.in-Err-open_store.fault,
        record { back = c.in-Err-open_store.ensures.refused; same = c.in-Err-open_store.ensures.untouched },
        refl,
        rw c.in-Ok.ensures.same at c.report_store.ensures,
      ),
    )
