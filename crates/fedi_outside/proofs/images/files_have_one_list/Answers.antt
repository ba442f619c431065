use Rattle.fedi_outside.proofs.ImageLemmas.{one_image}
use Rattle.fedi_outside.proofs.images.files_have_one_list.Goals as goal

pub returns : goal.returns
returns c = one_image
