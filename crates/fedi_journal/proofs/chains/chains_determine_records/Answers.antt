use Rattle.fedi_journal.proofs.ChainLemmas.{chains_determine, prefixes_determine}
use Rattle.fedi_journal.proofs.chains.chains_determine_records.Goals as goal

pub returns-clause-whole : goal.returns-clause-whole
returns-clause-whole c = chains_determine

pub returns-clause-part : goal.returns-clause-part
returns-clause-part c = prefixes_determine
