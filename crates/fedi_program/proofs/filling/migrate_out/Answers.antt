use Rattle.std.proofs.Common.{inl, refl}
use Rattle.fedi_program.proofs.FillLemmas.{closed_out}
use Rattle.fedi_program.proofs.filling.migrate_out.Goals as goal

pub returns-in-Ok-clause-moved : goal.returns-in-Ok-clause-moved
returns-in-Ok-clause-moved g c = closed_out g.D.Disk _ (g.V.Vault.shown c.handed_out.new.vault) _ _ (g.V.K.Keeper.shown c.move_out-status.result.1) _ _ _ _ _ c.in-Ok.ensures.handed c.in-Ok.ensures.faults c.close.ensures c.move_out-status.ensures

pub returns-in-Err-clause-moved : goal.returns-in-Err-clause-moved
returns-in-Err-clause-moved g c = inl (c.in-Err.fault, c.in-Err.ensures.refused, refl, c.report_store.ensures)
