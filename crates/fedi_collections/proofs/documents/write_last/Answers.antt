use Rattle.fedi_collections.proofs.DocumentParts.{no_last}
use Rattle.fedi_collections.proofs.documents.write_last.Goals as goal

pub returns-else-total-gt0-clause-written : goal.returns-else-total-gt0-clause-written
returns-else-total-gt0-clause-written c = no_last _ _ _ c.if-total-gt0.false
