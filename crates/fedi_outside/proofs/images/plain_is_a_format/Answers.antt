use Rattle.fedi_outside.proofs.ImageLemmas.{plain_ok}
use Rattle.fedi_outside.proofs.images.plain_is_a_format.Goals as goal

pub returns : goal.returns
returns c = plain_ok
