use Rattle.fedi_log.proofs.Files.{files_left}
use Rattle.fedi_log.proofs.lives.crashes_leave_files.Goals as goal

pub returns : goal.returns
returns g c = λ f opened now base log kept ok.
    files_left f (g.D.Disk.shown opened) (g.D.Disk.shown now) (g.D.Disk.crashes opened) (g.D.Disk.crashes now) base log kept ok
