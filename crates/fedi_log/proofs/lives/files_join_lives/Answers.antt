use Rattle.std.proofs.Common.{map}
use Rattle.fedi_entry.specs.Codes.{code_of}
use Rattle.fedi_outside.proofs.ImageLemmas.{one_image}
use Rattle.fedi_log.proofs.lives.files_join_lives.Goals as goal

pub returns : goal.returns
returns c = λ f life next image ok left opened. one_image f ok (map code_of next.opened) life.left image opened left
