use Rattle.fedi_collections.proofs.DocumentParts.{no_next}
use Rattle.fedi_collections.proofs.documents.write_next.Goals as goal

pub returns-else-number-gt0-clause-written : goal.returns-else-number-gt0-clause-written
returns-else-number-gt0-clause-written c = no_next _ _ _ c.if-number-gt0.false
