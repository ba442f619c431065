use Rattle.fedi_laws.proofs.Bare.{told_to_nobody}
use Rattle.fedi_laws.proofs.privacy.deleted_content_is_told_to_nobody.Goals as goal

pub returns : goal.returns
returns c = told_to_nobody
