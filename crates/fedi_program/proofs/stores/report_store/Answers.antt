use Rattle.fedi_program.proofs.stores.report_store.Goals as goal

pub returns-in-NotAStore : goal.returns-in-NotAStore
returns-in-NotAStore g c = rw c.in-NotAStore.is c.report.ensures

pub returns-in-Failed : goal.returns-in-Failed
returns-in-Failed g c = rw c.in-Failed.is c.report-in-Failed.ensures

pub returns-in-OldFormat : goal.returns-in-OldFormat
returns-in-OldFormat g c = rw c.in-OldFormat.is c.report-in-OldFormat.ensures
