use Rattle.std.proofs.Common.{◌∙◌, subst}
use Rattle.std.specs.Prelude.{Some}
use Rattle.fedi_outside.specs.Known.{IsKnown}
use Rattle.fedi_journal.specs.Chains.{IsHidden, hidden}
use Rattle.fedi_journal.specs.Files.{HasRecords}
use Rattle.fedi_journal.proofs.HidingSteps.{added_hidden, elapses_more, elapses_weak, hidden_read, hidden_starts}
use Rattle.fedi_journal.proofs.hiding.copy_record.Goals as goal

pub returns-in-Err-Failed-clause-images : goal.returns-in-Err-Failed-clause-images
returns-in-Err-Failed-clause-images g c = λ rs told.
    let k = c.args.journal.now in
    let known = subst (IsKnown hidden (g.D.Disk.shown k.disk) (g.D.Disk.crashes k.disk) k.end k.gates.items) c.requires.settled k.known in
    hidden_starts (g.D.Disk.shown k.disk) (g.D.Disk.crashes k.disk) k.end k.gates.items known rs told

pub returns-in-Err-Memory-clause-images : goal.returns-in-Err-Memory-clause-images
returns-in-Err-Memory-clause-images g c = λ rs told.
    let k = c.args.journal.now in
    let known = subst (IsKnown hidden (g.D.Disk.shown k.disk) (g.D.Disk.crashes k.disk) k.end k.gates.items) c.requires.settled k.known in
    hidden_starts (g.D.Disk.shown k.disk) (g.D.Disk.crashes k.disk) k.end k.gates.items known rs told

pub returns-in-Err-Full-clause-images : goal.returns-in-Err-Full-clause-images
returns-in-Err-Full-clause-images g c = λ rs told.
    let k = c.args.journal.now in
    let known = subst (IsKnown hidden (g.D.Disk.shown k.disk) (g.D.Disk.crashes k.disk) k.end k.gates.items) c.requires.settled k.known in
    hidden_read (g.D.Disk.shown k.disk) (g.D.Disk.shown c.reserve.new.self.disk) (g.D.Disk.crashes k.disk) (g.D.Disk.crashes c.reserve.new.self.disk) k.end k.gates.items known c.reserve.ensures.outside rs told

pub returns-in-Err-Memory-reserve-clause-images : goal.returns-in-Err-Memory-reserve-clause-images
returns-in-Err-Memory-reserve-clause-images g c = λ rs told.
    let k = c.args.journal.now in
    let known = subst (IsKnown hidden (g.D.Disk.shown k.disk) (g.D.Disk.crashes k.disk) k.end k.gates.items) c.requires.settled k.known in
    hidden_read (g.D.Disk.shown k.disk) (g.D.Disk.shown c.reserve.new.self.disk) (g.D.Disk.crashes k.disk) (g.D.Disk.crashes c.reserve.new.self.disk) k.end k.gates.items known c.reserve.ensures.outside rs told

pub returns-in-Ok-append-clause-images : goal.returns-in-Ok-append-clause-images
returns-in-Ok-append-clause-images g c = λ rs told.
    let k = c.args.journal.now in
    let known = subst (IsKnown hidden (g.D.Disk.shown k.disk) (g.D.Disk.crashes k.disk) k.end k.gates.items) c.requires.settled k.known in
    let p = c.deref.result.now in
    let mid = c.reserve.new.self.disk in
    let after = c.append.new.self.disk in
    elapses_more (g.D.Disk.crashes k.disk) (g.D.Disk.crashes mid) (g.D.Disk.crashes after) IsHidden
    (hidden_read (g.D.Disk.shown k.disk) (g.D.Disk.shown c.reserve.new.self.disk) (g.D.Disk.crashes k.disk) (g.D.Disk.crashes c.reserve.new.self.disk) k.end k.gates.items known c.reserve.ensures.outside rs told)
    (elapses_weak (g.D.Disk.crashes mid) (g.D.Disk.crashes after) (HasRecords hidden rs (Some p)) IsHidden (added_hidden rs (Some p))
    (c.append.ensures.images rs (c.reserve.ensures.shown.records ∙ told)))

pub returns-clause-images : goal.returns-clause-images
returns-clause-images g c = λ rs told.
    let k = c.args.journal.now in
    let known = subst (IsKnown hidden (g.D.Disk.shown k.disk) (g.D.Disk.crashes k.disk) k.end k.gates.items) c.requires.settled k.known in
    let p = c.deref.result.now in
    let mid = c.reserve.new.self.disk in
    let after = c.append.new.self.disk in
    elapses_more (g.D.Disk.crashes k.disk) (g.D.Disk.crashes mid) (g.D.Disk.crashes after) IsHidden
    (hidden_read (g.D.Disk.shown k.disk) (g.D.Disk.shown c.reserve.new.self.disk) (g.D.Disk.crashes k.disk) (g.D.Disk.crashes c.reserve.new.self.disk) k.end k.gates.items known c.reserve.ensures.outside rs told)
    (elapses_weak (g.D.Disk.crashes mid) (g.D.Disk.crashes after) (HasRecords hidden rs (Some p)) IsHidden (added_hidden rs (Some p))
    (c.append.ensures.images rs (c.reserve.ensures.shown.records ∙ told)))
