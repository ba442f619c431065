use Rattle.std.proofs.Common.{ℕ, ◌≡◌, ◌+◌, ◌-◌, ◌<◌, List, ◌++◌, length, take, drop, get_or, sym, ap, subst, rules, tests}
use Rattle.std.specs.Prelude.{IfSome}
use Rattle.std.proofs.lemmas.List.{take_at}
use Rattle.fedi_outside.specs.Disks.{DiskState}
use Rattle.fedi_outside.proofs.ImageSteps.{read_passes}
use Rattle.fedi_journal.specs.Blocks.{doubt_in}
use Rattle.fedi_journal.proofs.KeeperSteps.{finds_none, finds_some}
use Rattle.fedi_journal.proofs.journal.SealedJournalKeeper.load.Goals as goal

pub returns-in_default-clause-found : goal.returns-in_default-clause-found
returns-in_default-clause-found g c =
    let k = c.args.self.now in
    finds_none g.S.Seal.format g.met.S.Seal.is_format (g.D.Disk.shown k.disk) (length k.gates.items) c.args.place (search (rules, tests))

pub returns-in-Ok-clause-found : goal.returns-in-Ok-clause-found
returns-in-Ok-clause-found g c =
    let k = c.args.self.now in
    let disk = g.D.Disk.shown k.disk in
    let within : c.args.place < length k.gates.items = search (rules, tests) in
    let start : c.in-Some.start ≡ get_or k.gates.items c.args.place k.end + 9 = search rules in
    let counted : c.in-Some.count ≡ get_or k.gates.items (c.args.place + 1) k.end - get_or k.gates.items c.args.place k.end - (9 + c.width.result) = search rules in
    let count = subst (λ (w : ℕ). c.in-Some.count ≡ get_or k.gates.items (c.args.place + 1) k.end - get_or k.gates.items c.args.place k.end - (9 + w)) c.width.ensures.width counted in
    let size : length c.deref_mut.result.now ≡ c.in-Some.count = search rules in
    let bytes = c.in_ok-bytes.bytes in
    let into = c.read_at.new.into in
    let whole : take bytes.len (into ++ drop (length into) bytes.items) ≡ into = take_at into (drop (length into) bytes.items) bytes.len (search rules) in
    let taken = subst (λ (n : ℕ). IfSome disk.reads (λ all. into ≡ take n (drop c.in-Some.start all))) size c.in-Ok.ensures.bytes in
    finds_some g.S.Seal.format g.met.S.Seal.is_format disk (g.D.Disk.crashes k.disk) k.end k.gates.items (doubt_in g.S.Seal.format.width k.in_doubt k.block.items) k.known (g.met.D.Disk.reads_stay k.disk) c.args.place c.in-Some.start c.in-Some.count (take bytes.len (into ++ drop (length into) bytes.items)) within start count
    (subst (λ (l : List ℕ). IfSome disk.reads (λ all. l ≡ take c.in-Some.count (drop c.in-Some.start all))) (sym whole) taken)

pub returns-in-Ok-clause-time : goal.returns-in-Ok-clause-time
returns-in-Ok-clause-time g c =
    let k = c.args.self.now in
    read_passes g.S.Seal.format g.met.S.Seal.is_format (g.D.Disk.shown k.disk) (g.D.Disk.shown c.read_at.new.self) (g.D.Disk.crashes k.disk) (g.D.Disk.crashes c.read_at.new.self) k.end k.gates.items (doubt_in g.S.Seal.format.width k.in_doubt k.block.items) k.known
    (ap (λ (d : DiskState). d.reads) c.in-Ok.ensures.shown) c.read_at.ensures.time

pub returns-in-Err-clause-time : goal.returns-in-Err-clause-time
returns-in-Err-clause-time g c =
    let k = c.args.self.now in
    read_passes g.S.Seal.format g.met.S.Seal.is_format (g.D.Disk.shown k.disk) (g.D.Disk.shown c.read_at.new.self) (g.D.Disk.crashes k.disk) (g.D.Disk.crashes c.read_at.new.self) k.end k.gates.items (doubt_in g.S.Seal.format.width k.in_doubt k.block.items) k.known
    (ap (λ (d : DiskState). d.reads) c.in-Err.ensures.shown) c.read_at.ensures.time
