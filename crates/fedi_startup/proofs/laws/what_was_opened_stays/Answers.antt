use Rattle.std.proofs.Common.{refl, length}
use Rattle.fedi_log.specs.Keeping.{state_of}
use Rattle.fedi_startup.proofs.Stored.{stores_since_opening}
use Rattle.fedi_startup.proofs.laws.what_was_opened_stays.Goals as goal

pub returns : goal.returns
returns g c = λ start bytes log is opening files holds crashes marks sound.
    let here = c.args.opened.now.keeper in
    let later = c.args.closed.now.keeper in
    stores_since_opening start (g.D.Disk.shown here.disk) (g.D.Disk.shown later.disk) (g.D.Disk.crashes here.disk) (g.D.Disk.crashes later.disk) _ _ log
    (length here.gates.items) bytes is opening refl files (g.met.D.Disk.only_now here.disk) holds crashes marks sound
