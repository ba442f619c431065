use Rattle.std.proofs.Common.{ap, length, ◌∙◌}
use Rattle.fedi_startup.proofs.ClosingSteps.{is_closed}
use Rattle.fedi_startup.proofs.Told.{faults_here, records_here}
use Rattle.fedi_startup.proofs.closing.close_store.Goals as goal

pub returns-clause-closed : goal.returns-clause-closed
returns-clause-closed g c =
    let same = c.into_disk.ensures.disk ∙ ap (λ k. k.disk) c.close.ensures.keeper in
    is_closed (g.D.Disk.shown c.into_disk.result) (g.D.Disk.crashes c.into_disk.result) _ c.args.core.history (length c.args.core.keeper.gates.items)
    (record { legal = c.close.ensures.legal; formed = c.close.ensures.formed }) c.close.ensures.doubted (records_here g.D.Disk.shown _ _ _ same) (faults_here g.D.Disk.shown _ _ same) c.close.ensures.kept c.close.ensures.held
    (rw c.close.ensures.keeper at c.into_disk.ensures.images) (g.met.D.Disk.reads_stay c.into_disk.result)
