use Rattle.fedi_collections.proofs.DocumentParts.{no_first}
use Rattle.fedi_collections.proofs.documents.write_first.Goals as goal

pub returns-else-total-gt0-clause-written : goal.returns-else-total-gt0-clause-written
returns-else-total-gt0-clause-written c = no_first _ _ _ c.if-total-gt0.false
