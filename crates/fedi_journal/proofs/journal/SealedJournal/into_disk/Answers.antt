use Rattle.fedi_outside.proofs.ImageSteps.{images_left}
use Rattle.fedi_journal.specs.Blocks.{doubt_in}
use Rattle.fedi_journal.proofs.journal.SealedJournal.into_disk.Goals as goal

pub returns-clause-images : goal.returns-clause-images
returns-clause-images g c =
    let k = c.args.self in
    images_left g.S.Seal.format g.met.S.Seal.is_format (g.D.Disk.shown k.disk) (g.D.Disk.crashes k.disk) k.end k.gates.items (doubt_in g.S.Seal.format.width k.in_doubt k.block.items) k.known
