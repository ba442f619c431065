use Rattle.std.proofs.Common.{◌≡◌, ◌≤◌, ◌∙◌, sym, subst, rules}
use Rattle.fedi_outside.specs.Disks.{Elapses, MayTear}
use Rattle.fedi_outside.specs.MemoryDisks.{MemoryDiskState, disk_crashes, disk_shown}
use Rattle.fedi_outside.proofs.MemoryDiskSteps.{crashes_of, unwritten_elapses, without_last, write_elapses}
use Rattle.fedi_outside.proofs.memory_disks.MemoryDiskDisk.write_at.Goals as goal

pub returns-then-not-done-clause-time : goal.returns-then-not-done-clause-time
returns-then-not-done-clause-time c =
    let d = c.self.inside in
    let from = c.args.from.now in
    subst (λ (new : MemoryDiskState). Elapses (disk_crashes c.args.self.now) (disk_crashes new) (MayTear c.args.at from (disk_crashes c.args.self.now))) (sym c.fault-then-not-done.ensures)
    (subst (λ (old : MemoryDiskState). c.args.at ≤ (disk_shown old).size → Elapses (disk_crashes old) (crashes_of d.base.items c.note.new.calls.items) (MayTear c.args.at from (disk_crashes old))) c.self.view_is
    (write_elapses d.base.items d.calls.items c.note.new.calls.items c.args.at c.in-Ok.bytes _ from c.in-Ok-note.ensures.ok (search rules)) c.requires.inside)

pub returns-clause-time : goal.returns-clause-time
returns-clause-time c =
    let d = c.self.inside in
    let from = c.args.from.now in
    subst (λ (old : MemoryDiskState). c.args.at ≤ (disk_shown old).size → Elapses (disk_crashes old) (crashes_of d.base.items c.note.new.calls.items) (MayTear c.args.at from (disk_crashes old))) c.self.view_is
    (write_elapses d.base.items d.calls.items c.note.new.calls.items c.args.at c.in-Ok.bytes _ from c.in-Ok-note.ensures.ok (search rules)) c.requires.inside

pub returns-in_default-splice-clause-time : goal.returns-in_default-splice-clause-time
returns-in_default-splice-clause-time c =
    let d = c.self.inside in
    let from = c.args.from.now in
    let calls = c.pop.new.self.items in
    let same : calls ≡ d.calls.items = c.pop.ensures.rest ∙ without_last d.calls.items c.note.new.calls.items _ _ c.in-Ok-note.ensures.ok (search rules) in
    subst (λ (new : MemoryDiskState). Elapses (disk_crashes c.args.self.now) (disk_crashes new) (MayTear c.args.at from (disk_crashes c.args.self.now))) (sym c.fault-in_default-splice.ensures)
    (subst (λ (old : MemoryDiskState). Elapses (disk_crashes old) (crashes_of d.base.items calls) (MayTear c.args.at from (disk_crashes old))) c.self.view_is
    (unwritten_elapses d.base.items d.calls.items calls c.args.at from same))
