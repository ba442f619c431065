use Rattle.std.proofs.Common.{arith, length, refl}
use Rattle.fedi_logged.proofs.Hosted.{hosted}
use Rattle.fedi_program.proofs.StoreLemmas.{over, served_alone}
use Rattle.fedi_program.proofs.WorkLemmas.{adds_work, unopened_on_disk, worked_on_disk}
use Rattle.fedi_program.proofs.places.work_on_disk.Goals as goal

pub returns-in-Ok-clause-does : goal.returns-in-Ok-clause-does
returns-in-Ok-clause-does g c =
    let core = c.in-Ok.core in
    let last = c.work-status.result.1.keeper.disk in
    let closed = rw c.close_store.ensures.disk at c.close_store.ensures.closed in
    let w = c.work-status.ensures.works in
    rw c.close_store.ensures.disk (worked_on_disk g.D.Disk g.K.Link _ _ _ _ _ _ _ _ w.0 c.requires.adds
    (served_alone _ _ _ _ _ w.0
    (over g.D.Disk g.met.D.Disk.only_now c.args.disk core.keeper.disk last _ _
    (length core.keeper.gates.items) c.in-Ok.ensures.opened refl c.in-Ok.ensures.untouched
    c.in-Ok.ensures.leaves closed) w.1) w.2)

pub returns-in-Err-clause-does : goal.returns-in-Err-clause-does
returns-in-Err-clause-does g c =
    unopened_on_disk g.D.Disk g.K.Link _ _ _ _ _ _ c.in-Err.fault c.requires.adds (λ delivers. omega (arith, c.requires.linked delivers, c.args.benches.now.ok))
    (record { back = c.in-Err.ensures.refused; same = c.in-Err.ensures.untouched })
    (record { input = refl; reads = refl; chance = refl; benches = refl }) c.report_unopened.ensures

pub work-status-requires-clause-hosted : goal.work-status-requires-clause-hosted
work-status-requires-clause-hosted g c =
    let opens = c.in-Ok.ensures.opened in
    hosted c.in-Ok.core.history opens.some opens.sound.legal

pub work-status-requires-clause-works : goal.work-status-requires-clause-works
work-status-requires-clause-works g c = adds_work _ c.requires.adds
