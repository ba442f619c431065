use Rattle.std.proofs.Common.{inl, inr, refl}
use Rattle.fedi_logged.proofs.Hosted.{hosted}
use Rattle.fedi_town.specs.Histories.{town}
use Rattle.fedi_program.proofs.ReportLemmas.{reported_in_vault}
use Rattle.fedi_program.proofs.reporting.report_in_vault.Goals as goal

pub gather-gathered-requires : goal.gather-gathered-requires
gather-gathered-requires g c =
    let opens = c.in-Ok-open_vault.ensures.opened in
    record { hosted = hosted c.in-Ok-open_vault.core.history opens.some opens.sound.legal }

pub returns-in-Err-clause-reported : goal.returns-in-Err-clause-reported
returns-in-Err-clause-reported g c = inl (refl, refl, c.in-Err.ensures.refused)

pub returns-in-Ok-open_vault-clause-reported : goal.returns-in-Ok-open_vault-clause-reported
returns-in-Ok-open_vault-clause-reported g c =
    let core = c.in-Ok-open_vault.core in
    let opens = c.in-Ok-open_vault.ensures in
    let text = c.print_gathered.ensures (town core.history) c.args.name.now c.gather-gathered.ensures.rows (rw c.in-Ok.ensures.read at c.gather-gathered.ensures.actor) in
    reported_in_vault _ _ g.V.K.Keeper core.keeper _ (g.V.Vault.shown c.open_vault.new.vault) _ _ _ _ _ _ _ _ _ _ _ c.in-Ok.ensures.name c.in-Ok.ensures.kind
    refl opens.opened opens.faults c.close_vault.ensures.closed c.close_vault.ensures.faults c.gather-gathered.ensures.crashes (rw c.in-Ok.ensures.same at text)

pub returns-in-Err-open_vault-clause-reported : goal.returns-in-Err-open_vault-clause-reported
returns-in-Err-open_vault-clause-reported g c =
    inr (
      c.in-Ok.ensures.name,
      c.in-Ok.ensures.kind,
      inl (c.in-Err-open_vault.fault, c.in-Err-open_vault.ensures.refused, refl, rw c.in-Ok.ensures.same at c.report_store.ensures),
    )
