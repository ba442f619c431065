use Rattle.std.proofs.Common.{ap, length, refl, ◌∙◌}
use Rattle.fedi_startup.proofs.ClosingSteps.{is_closed}
use Rattle.fedi_startup.proofs.Told.{faults_here, records_here}
use Rattle.fedi_program.proofs.CheckLemmas.{tip_is}
use Rattle.fedi_program.proofs.checking.close_with_tip.Goals as goal

pub returns-clause-tip : goal.returns-clause-tip
returns-clause-tip g c = tip_is (g.D.Disk.shown c.args.core.keeper.disk) _ c.args.core.history (length c.args.core.keeper.gates.items) c.tip-tip.result c.close-journal.ensures.kept
    (rw c.close-journal.ensures.keeper at c.tip-tip.ensures) refl

pub returns-clause-closed : goal.returns-clause-closed
returns-clause-closed g c =
    let same = c.into_disk.ensures.disk ∙ ap (λ k. k.disk) c.close-journal.ensures.keeper in
    is_closed (g.D.Disk.shown c.into_disk.result) (g.D.Disk.crashes c.into_disk.result) _ c.args.core.history (length c.args.core.keeper.gates.items)
    (record { legal = c.close-journal.ensures.legal; formed = c.close-journal.ensures.formed }) c.close-journal.ensures.doubted (records_here g.D.Disk.shown _ _ _ same) (faults_here g.D.Disk.shown _ _ same) c.close-journal.ensures.kept c.close-journal.ensures.held
    (rw c.close-journal.ensures.keeper at c.into_disk.ensures.images) (g.met.D.Disk.reads_stay c.into_disk.result)
