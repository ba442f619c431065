use Rattle.fedi_journal.specs.ChainLaws.{chained_ok, hidden_ok}
use Rattle.fedi_journal.proofs.chains.chained_are_formats.Goals as goal

pub returns-clause-chained : goal.returns-clause-chained
returns-clause-chained c = chained_ok

pub returns-clause-hidden : goal.returns-clause-hidden
returns-clause-hidden c = hidden_ok
