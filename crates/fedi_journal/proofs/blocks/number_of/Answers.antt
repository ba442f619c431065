use Rattle.std.proofs.Common.{sym}
use Rattle.std.proofs.lemmas.Nat.{be_bytes_8}
use Rattle.fedi_outside.specs.Images.{size_code}
use Rattle.fedi_journal.proofs.blocks.number_of.Goals as goal

pub returns : goal.returns
unfolding size_code
returns c = sym (be_bytes_8 c.args.bytes.now c.from_be_bytes.result c.told-bytes c.fits-bytes c.from_be_bytes.ensures)
