use Rattle.std.proofs.Common.{[], ◌∷◌, length, ap}
use Rattle.std.specs.Prelude.{None}
use Rattle.fedi_outside.specs.Disks.{DiskState, spliced}
use Rattle.fedi_outside.proofs.ImageSteps.{settle_done, settle_failed, settle_passes, torn_told, written_told}
use Rattle.fedi_journal.specs.Blocks.{doubt_in}
use Rattle.fedi_journal.proofs.KeeperSteps.{on_err, sealed_on, shows_same}
use Rattle.fedi_journal.proofs.journal.SealedJournalKeeper.settle.Goals as goal

pub invariant_of-self : goal.invariant_of-self
invariant_of-self g c =
    let k = c.args.self.now in
    let disk = c.write_synced.new.disk in
    record {
      room = k.room;
      known = (settle_failed g.S.Seal.format g.met.S.Seal.is_format (g.D.Disk.shown k.disk) (g.D.Disk.shown disk) (g.D.Disk.crashes k.disk) (g.D.Disk.crashes disk) k.end k.gates.items (doubt_in g.S.Seal.format.width k.in_doubt k.block.items) k.known
          (g.met.D.Disk.reads_stay disk) c.in_err-write_synced.ensures.refused c.write_synced.ensures.time).known;
      sealed = sealed_on g.S.Seal.format g.S.Seal.after k.seal (length k.gates.items) (g.D.Disk.shown k.disk) (g.D.Disk.shown disk)
          (settle_failed g.S.Seal.format g.met.S.Seal.is_format (g.D.Disk.shown k.disk) (g.D.Disk.shown disk) (g.D.Disk.crashes k.disk) (g.D.Disk.crashes disk) k.end k.gates.items (doubt_in g.S.Seal.format.width k.in_doubt k.block.items) k.known
          (g.met.D.Disk.reads_stay disk) c.in_err-write_synced.ensures.refused c.write_synced.ensures.time).records k.sealed;
    }

pub returns-in_err-write_synced-clause-refused : goal.returns-in_err-write_synced-clause-refused
returns-in_err-write_synced-clause-refused g c =
    let k = c.args.self.now in
    let old = g.D.Disk.shown k.disk in
    let disk = c.write_synced.new.disk in
    let doubt = doubt_in g.S.Seal.format.width k.in_doubt k.block.items in
    let torn = c.in_err-write_synced.ensures.refused in
    let carried = settle_failed g.S.Seal.format g.met.S.Seal.is_format old (g.D.Disk.shown disk) (g.D.Disk.crashes k.disk) (g.D.Disk.crashes disk) k.end k.gates.items doubt k.known
    (g.met.D.Disk.reads_stay disk) torn c.write_synced.ensures.time in
    on_err c.from_residual.result _ (shows_same (length k.gates.items) doubt k.spare k.end carried.records torn.faults)

pub returns-in_err-write_synced-clause-time : goal.returns-in_err-write_synced-clause-time
returns-in_err-write_synced-clause-time g c =
    let k = c.args.self.now in
    let old = g.D.Disk.shown k.disk in
    let new = g.D.Disk.shown c.write_synced.new.disk in
    settle_passes g.S.Seal.format g.met.S.Seal.is_format old new (g.D.Disk.crashes k.disk) (g.D.Disk.crashes c.write_synced.new.disk) k.end k.gates.items (doubt_in g.S.Seal.format.width k.in_doubt k.block.items) k.known
    (torn_told k.end (0 ∷ []) old.reads new.reads c.in_err-write_synced.ensures.refused.reads) c.write_synced.ensures.time

pub invariant_of-self-then-self : goal.invariant_of-self-then-self
invariant_of-self-then-self g c =
    let k = c.args.self.now in
    let disk = c.write_synced.new.disk in
    record {
      room = k.room;
      known = (settle_done g.S.Seal.format g.met.S.Seal.is_format (g.D.Disk.shown k.disk) (g.D.Disk.shown disk) (g.D.Disk.crashes k.disk) (g.D.Disk.crashes disk) k.end k.gates.items (doubt_in g.S.Seal.format.width k.in_doubt k.block.items) k.known
          (g.met.D.Disk.reads_stay k.disk) (g.met.D.Disk.reads_stay disk) c.in_ok-write_synced.ensures.written c.in_ok-write_synced.ensures.durable).known;
      sealed = sealed_on g.S.Seal.format g.S.Seal.after k.seal (length k.gates.items) (g.D.Disk.shown k.disk) (g.D.Disk.shown disk)
          (settle_done g.S.Seal.format g.met.S.Seal.is_format (g.D.Disk.shown k.disk) (g.D.Disk.shown disk) (g.D.Disk.crashes k.disk) (g.D.Disk.crashes disk) k.end k.gates.items (doubt_in g.S.Seal.format.width k.in_doubt k.block.items) k.known
          (g.met.D.Disk.reads_stay k.disk) (g.met.D.Disk.reads_stay disk) c.in_ok-write_synced.ensures.written c.in_ok-write_synced.ensures.durable).records k.sealed;
    }

pub returns-in_ok-write_synced-clause-settled : goal.returns-in_ok-write_synced-clause-settled
returns-in_ok-write_synced-clause-settled g c =
    let k = c.args.self.now in
    let old = g.D.Disk.shown k.disk in
    let disk = c.write_synced.new.disk in
    let written = c.in_ok-write_synced.ensures.written in
    let carried = settle_done g.S.Seal.format g.met.S.Seal.is_format old (g.D.Disk.shown disk) (g.D.Disk.crashes k.disk) (g.D.Disk.crashes disk) k.end k.gates.items (doubt_in g.S.Seal.format.width k.in_doubt k.block.items) k.known
    (g.met.D.Disk.reads_stay k.disk) (g.met.D.Disk.reads_stay disk) written c.in_ok-write_synced.ensures.durable in
    shows_same (length k.gates.items) None k.spare k.end carried.records (ap (λ (d : DiskState). d.faults) written)

pub returns-in_ok-write_synced-clause-time : goal.returns-in_ok-write_synced-clause-time
returns-in_ok-write_synced-clause-time g c =
    let k = c.args.self.now in
    let old = g.D.Disk.shown k.disk in
    let new = g.D.Disk.shown c.write_synced.new.disk in
    settle_passes g.S.Seal.format g.met.S.Seal.is_format old new (g.D.Disk.crashes k.disk) (g.D.Disk.crashes c.write_synced.new.disk) k.end k.gates.items (doubt_in g.S.Seal.format.width k.in_doubt k.block.items) k.known
    (written_told (spliced k.end (0 ∷ [])) old.reads new.reads (ap (λ (d : DiskState). d.reads) c.in_ok-write_synced.ensures.written)) c.write_synced.ensures.time
