use Rattle.std.proofs.Common.{subst}
use Rattle.fedi_outside.specs.Disks.{Elapses}
use Rattle.fedi_outside.specs.MemoryDisks.{MemoryDiskState, disk_crashes}
use Rattle.fedi_outside.proofs.MemoryDiskSteps.{crashes_of, read_elapses}
use Rattle.fedi_outside.proofs.memory_disks.MemoryDiskDisk.read_at.Goals as goal

pub returns-clause-time : goal.returns-clause-time
returns-clause-time c =
    let d = c.self.inside in
    subst (λ (old : MemoryDiskState). Elapses (disk_crashes old) (crashes_of d.base.items c.note.new.calls.items) (disk_crashes old).may_leave) c.self.view_is
    (read_elapses d.base.items d.calls.items c.note.new.calls.items c.args.at _ c.in-Ok.ensures.ok)
