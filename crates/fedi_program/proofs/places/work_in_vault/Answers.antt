use Rattle.std.proofs.Common.{inl, inr, refl}
use Rattle.fedi_logged.proofs.Hosted.{hosted}
use Rattle.fedi_program.proofs.WorkLemmas.{ran_in}
use Rattle.fedi_program.proofs.places.work_in_vault.Goals as goal

pub returns-in-Ok-clause-works : goal.returns-in-Ok-clause-works
returns-in-Ok-clause-works g c =
    let w = c.work-status.ensures.works in
    inr (_, _, w.0, ran_in g.V.K.Keeper c.in-Ok.core.keeper _ (g.V.Vault.shown c.open_vault.new.vault) _ _ _ _ _ _ refl c.in-Ok.ensures.opened c.in-Ok.ensures.faults c.close_vault.ensures.closed c.close_vault.ensures.faults w.1, w.2)

pub returns-in-Err-clause-works : goal.returns-in-Err-clause-works
returns-in-Err-clause-works g c =
    inl (c.in-Err.fault, c.in-Err.ensures.refused, record { input = refl; reads = refl; chance = refl; benches = refl }, c.report_unopened.ensures)

pub work-status-requires-clause-hosted : goal.work-status-requires-clause-hosted
work-status-requires-clause-hosted g c =
    let opens = c.in-Ok.ensures.opened in
    hosted c.in-Ok.core.history opens.some opens.sound.legal
