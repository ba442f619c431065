use Rattle.std.proofs.Common.{ℕ, ◌≡◌, ◌+◌, List, [], ◌∷◌, ◌++◌, length, inl, inr, sym, subst, ap, ◌∙◌, refl, arith, length-append}
use Rattle.std.specs.Prelude.{Option, None, Some, option_map}
use Rattle.fedi_outside.specs.Causes.{next_count}
use Rattle.fedi_outside.specs.Disks.{DiskState, spliced}
use Rattle.fedi_outside.specs.Known.{IsKnown, records_told}
use Rattle.fedi_journal.specs.Finding.{IsSealed}
use Rattle.fedi_outside.proofs.ImageSteps.{append_adds_files, append_passes, open_done, open_failed, stage_adds_files, stage_done, stage_failed, stage_passes, torn_told, written_told}
use Rattle.fedi_journal.proofs.KeeperSteps.{end_same, on_err, payload_back, seal_spelled, sealed_more, sealed_on, spells, still_sure}
use Rattle.fedi_journal.proofs.journal.SealedJournalKeeper.append.Goals as goal

pub invariant_of-self : goal.invariant_of-self
invariant_of-self g c =
    let k = c.args.self.now in
    let p = c.args.payload.now in
    let block = c.deref.result.now in
    let old = g.D.Disk.shown k.disk in
    let before = g.D.Disk.crashes k.disk in
    let mid = g.D.Disk.shown c.write_synced.new.disk in
    let between = g.D.Disk.crashes c.write_synced.new.disk in
    let known = subst (IsKnown g.S.Seal.format old before k.end k.gates.items) c.requires.settled k.known in
    let torn = c.in_err-write_synced.ensures.refused in
    let carried = stage_failed g.S.Seal.format g.met.S.Seal.is_format old mid before between k.end (k.end + 1) k.gates.items block refl known (g.met.D.Disk.reads_stay c.write_synced.new.disk) torn c.write_synced.ensures.time in
    record {
      room = λ some. let room = k.room some in (omega (arith, room.0, c.write_block.ensures.capacity), room.1);
      known = subst (IsKnown g.S.Seal.format mid between k.end k.gates.items) (sym (still_sure g.S.Seal.format.width k.in_doubt k.block.items c.write_block.new.block.items c.requires.settled)) carried.known;
      sealed = sealed_on g.S.Seal.format g.S.Seal.after k.seal (length k.gates.items) old mid carried.records k.sealed;
    }

pub returns-in_err-write_synced-clause-refused : goal.returns-in_err-write_synced-clause-refused
returns-in_err-write_synced-clause-refused g c =
    let k = c.args.self.now in
    let p = c.args.payload.now in
    let block = c.deref.result.now in
    let old = g.D.Disk.shown k.disk in
    let before = g.D.Disk.crashes k.disk in
    let mid = g.D.Disk.shown c.write_synced.new.disk in
    let between = g.D.Disk.crashes c.write_synced.new.disk in
    let known = subst (IsKnown g.S.Seal.format old before k.end k.gates.items) c.requires.settled k.known in
    let torn = c.in_err-write_synced.ensures.refused in
    let carried = stage_failed g.S.Seal.format g.met.S.Seal.is_format old mid before between k.end (k.end + 1) k.gates.items block refl known (g.met.D.Disk.reads_stay c.write_synced.new.disk) torn c.write_synced.ensures.time in
    on_err c.from_residual.result _ (record {
      records = carried.records;
      held = refl;
      doubt = inl (still_sure g.S.Seal.format.width k.in_doubt k.block.items c.write_block.new.block.items c.requires.settled);
      spare = refl;
      end = refl;
      faults = torn.faults;
    })

pub returns-in_err-write_synced-clause-time : goal.returns-in_err-write_synced-clause-time
returns-in_err-write_synced-clause-time g c =
    let k = c.args.self.now in
    let p = c.args.payload.now in
    let block = c.deref.result.now in
    let old = g.D.Disk.shown k.disk in
    let before = g.D.Disk.crashes k.disk in
    let mid = g.D.Disk.shown c.write_synced.new.disk in
    let between = g.D.Disk.crashes c.write_synced.new.disk in
    let known = subst (IsKnown g.S.Seal.format old before k.end k.gates.items) c.requires.settled k.known in
    let torn = c.in_err-write_synced.ensures.refused in
    stage_passes g.S.Seal.format g.met.S.Seal.is_format old mid before between k.end (k.end + 1) k.gates.items block p refl c.requires.room known (torn_told (k.end + 1) block old.reads mid.reads torn.reads) c.write_synced.ensures.time

pub invariant_of-self-in-Err : goal.invariant_of-self-in-Err
invariant_of-self-in-Err g c =
    let k = c.args.self.now in
    let p = c.args.payload.now in
    let block = c.deref.result.now in
    let old = g.D.Disk.shown k.disk in
    let before = g.D.Disk.crashes k.disk in
    let mid = g.D.Disk.shown c.write_synced.new.disk in
    let between = g.D.Disk.crashes c.write_synced.new.disk in
    let known = subst (IsKnown g.S.Seal.format old before k.end k.gates.items) c.requires.settled k.known in
    let new = g.D.Disk.shown c.write_synced-2.new.disk in
    let after = g.D.Disk.crashes c.write_synced-2.new.disk in
    let ready = stage_done g.S.Seal.format g.met.S.Seal.is_format old mid before between k.end (k.end + 1) k.gates.items block p refl (spells g.S.Seal.format g.met.S.Seal.is_format (length k.gates.items) old p c.bytes.result.now block (c.deref.ensures.value ∙ c.write_block.ensures.bytes) c.bytes.ensures.count
    (seal_spelled g.S.Seal.format g.S.Seal.after k.seal c.next-seal.result (length k.gates.items) p c.bytes.result.now old c.next-seal.ensures c.bytes.ensures.seal k.sealed)) known
    (g.met.D.Disk.reads_stay k.disk) c.in_ok-write_synced.ensures.written c.in_ok-write_synced.ensures.durable in
    let torn = c.in-Err.ensures.refused in
    let carried = open_failed g.S.Seal.format g.met.S.Seal.is_format old mid new before between after k.end k.gates.items p c.requires.room known ready (g.met.D.Disk.reads_stay c.write_synced-2.new.disk) torn c.write_synced-2.ensures.time in
    record {
      room = λ some. let room = k.room some in (omega (arith, room.0, c.write_block.ensures.capacity), room.1);
      known = subst (IsKnown g.S.Seal.format new after k.end k.gates.items) (ap (λ (r : List ℕ). Some r) (sym (payload_back g.S.Seal.format.width c.write_block.new.block.items p c.bytes.result.now c.bytes.ensures.count c.write_block.ensures.bytes))) carried.known;
      sealed = sealed_on g.S.Seal.format g.S.Seal.after k.seal (length k.gates.items) old new carried.records k.sealed;
    }

pub returns-in-Err-clause-refused : goal.returns-in-Err-clause-refused
returns-in-Err-clause-refused g c =
    let k = c.args.self.now in
    let p = c.args.payload.now in
    let block = c.deref.result.now in
    let old = g.D.Disk.shown k.disk in
    let before = g.D.Disk.crashes k.disk in
    let mid = g.D.Disk.shown c.write_synced.new.disk in
    let between = g.D.Disk.crashes c.write_synced.new.disk in
    let known = subst (IsKnown g.S.Seal.format old before k.end k.gates.items) c.requires.settled k.known in
    let new = g.D.Disk.shown c.write_synced-2.new.disk in
    let after = g.D.Disk.crashes c.write_synced-2.new.disk in
    let ready = stage_done g.S.Seal.format g.met.S.Seal.is_format old mid before between k.end (k.end + 1) k.gates.items block p refl (spells g.S.Seal.format g.met.S.Seal.is_format (length k.gates.items) old p c.bytes.result.now block (c.deref.ensures.value ∙ c.write_block.ensures.bytes) c.bytes.ensures.count
    (seal_spelled g.S.Seal.format g.S.Seal.after k.seal c.next-seal.result (length k.gates.items) p c.bytes.result.now old c.next-seal.ensures c.bytes.ensures.seal k.sealed)) known
    (g.met.D.Disk.reads_stay k.disk) c.in_ok-write_synced.ensures.written c.in_ok-write_synced.ensures.durable in
    let torn = c.in-Err.ensures.refused in
    let carried = open_failed g.S.Seal.format g.met.S.Seal.is_format old mid new before between after k.end k.gates.items p c.requires.room known ready (g.met.D.Disk.reads_stay c.write_synced-2.new.disk) torn c.write_synced-2.ensures.time in
    record {
      records = carried.records;
      held = refl;
      doubt = inr (ap (λ (r : List ℕ). Some r) (payload_back g.S.Seal.format.width c.write_block.new.block.items p c.bytes.result.now c.bytes.ensures.count c.write_block.ensures.bytes));
      spare = refl;
      end = refl;
      faults = torn.faults ∙ ap (λ (n : ℕ). next_count n) (ap (λ (d : DiskState). d.faults) c.in_ok-write_synced.ensures.written);
    }

pub returns-in-Err-clause-time : goal.returns-in-Err-clause-time
returns-in-Err-clause-time g c =
    let k = c.args.self.now in
    let p = c.args.payload.now in
    let block = c.deref.result.now in
    let old = g.D.Disk.shown k.disk in
    let before = g.D.Disk.crashes k.disk in
    let mid = g.D.Disk.shown c.write_synced.new.disk in
    let between = g.D.Disk.crashes c.write_synced.new.disk in
    let known = subst (IsKnown g.S.Seal.format old before k.end k.gates.items) c.requires.settled k.known in
    let new = g.D.Disk.shown c.write_synced-2.new.disk in
    let after = g.D.Disk.crashes c.write_synced-2.new.disk in
    let ready = stage_done g.S.Seal.format g.met.S.Seal.is_format old mid before between k.end (k.end + 1) k.gates.items block p refl (spells g.S.Seal.format g.met.S.Seal.is_format (length k.gates.items) old p c.bytes.result.now block (c.deref.ensures.value ∙ c.write_block.ensures.bytes) c.bytes.ensures.count
    (seal_spelled g.S.Seal.format g.S.Seal.after k.seal c.next-seal.result (length k.gates.items) p c.bytes.result.now old c.next-seal.ensures c.bytes.ensures.seal k.sealed)) known
    (g.met.D.Disk.reads_stay k.disk) c.in_ok-write_synced.ensures.written c.in_ok-write_synced.ensures.durable in
    append_passes g.S.Seal.format g.met.S.Seal.is_format old mid new before between after k.end (k.end + 1) k.gates.items block p refl c.requires.room known ready (torn_told k.end (1 ∷ []) mid.reads new.reads c.in-Err.ensures.refused.reads)
    c.write_synced.ensures.time c.write_synced-2.ensures.time

pub invariant_of-self-in-Ok : goal.invariant_of-self-in-Ok
invariant_of-self-in-Ok g c =
    let k = c.args.self.now in
    let p = c.args.payload.now in
    let block = c.deref.result.now in
    let old = g.D.Disk.shown k.disk in
    let before = g.D.Disk.crashes k.disk in
    let mid = g.D.Disk.shown c.write_synced.new.disk in
    let between = g.D.Disk.crashes c.write_synced.new.disk in
    let known = subst (IsKnown g.S.Seal.format old before k.end k.gates.items) c.requires.settled k.known in
    let new = g.D.Disk.shown c.write_synced-2.new.disk in
    let after = g.D.Disk.crashes c.write_synced-2.new.disk in
    let ready = stage_done g.S.Seal.format g.met.S.Seal.is_format old mid before between k.end (k.end + 1) k.gates.items block p refl (spells g.S.Seal.format g.met.S.Seal.is_format (length k.gates.items) old p c.bytes.result.now block (c.deref.ensures.value ∙ c.write_block.ensures.bytes) c.bytes.ensures.count
    (seal_spelled g.S.Seal.format g.S.Seal.after k.seal c.next-seal.result (length k.gates.items) p c.bytes.result.now old c.next-seal.ensures c.bytes.ensures.seal k.sealed)) known
    (g.met.D.Disk.reads_stay k.disk) c.in_ok-write_synced.ensures.written c.in_ok-write_synced.ensures.durable in
    let grown = open_done g.S.Seal.format g.met.S.Seal.is_format old mid new before between after k.end k.gates.items p c.requires.room known ready (g.met.D.Disk.reads_stay c.write_synced.new.disk) (g.met.D.Disk.reads_stay c.write_synced-2.new.disk)
    c.in-Ok.ensures.written c.in-Ok.ensures.durable in
    let pushed = c.push_reserved.ensures.items in
    record {
      room = λ some. absurd (omega arith);
      known = subst (λ (d : Option (List ℕ)). IsKnown g.S.Seal.format new after (k.end + 9 + c.width.result + length p) c.push_reserved.new.self.items d) (sym (still_sure g.S.Seal.format.width k.in_doubt k.block.items c.write_block.new.block.items c.requires.settled))
          (subst (λ (l : List ℕ). IsKnown g.S.Seal.format new after (k.end + 9 + c.width.result + length p) l None) (sym pushed) (subst (λ (e : ℕ). IsKnown g.S.Seal.format new after e (k.gates.items ++ k.end ∷ []) None) (end_same k.end g.S.Seal.format.width c.width.result (length p) c.width.ensures.width) grown.known));
      sealed = subst (λ (l : List ℕ). (bytes : List ℕ) → new.reads ≡ Some bytes → IsSealed g.S.Seal.format g.S.Seal.after (length l) c.next-seal.result bytes) (sym pushed)
          (sealed_more g.S.Seal.format g.S.Seal.after k.seal c.next-seal.result (length k.gates.items) (length (k.gates.items ++ k.end ∷ [])) p old new grown.records c.next-seal.ensures k.sealed);
    }

pub returns-in-Ok-clause-added : goal.returns-in-Ok-clause-added
returns-in-Ok-clause-added g c =
    let k = c.args.self.now in
    let p = c.args.payload.now in
    let block = c.deref.result.now in
    let old = g.D.Disk.shown k.disk in
    let before = g.D.Disk.crashes k.disk in
    let mid = g.D.Disk.shown c.write_synced.new.disk in
    let between = g.D.Disk.crashes c.write_synced.new.disk in
    let known = subst (IsKnown g.S.Seal.format old before k.end k.gates.items) c.requires.settled k.known in
    let new = g.D.Disk.shown c.write_synced-2.new.disk in
    let after = g.D.Disk.crashes c.write_synced-2.new.disk in
    let ready = stage_done g.S.Seal.format g.met.S.Seal.is_format old mid before between k.end (k.end + 1) k.gates.items block p refl (spells g.S.Seal.format g.met.S.Seal.is_format (length k.gates.items) old p c.bytes.result.now block (c.deref.ensures.value ∙ c.write_block.ensures.bytes) c.bytes.ensures.count
    (seal_spelled g.S.Seal.format g.S.Seal.after k.seal c.next-seal.result (length k.gates.items) p c.bytes.result.now old c.next-seal.ensures c.bytes.ensures.seal k.sealed)) known
    (g.met.D.Disk.reads_stay k.disk) c.in_ok-write_synced.ensures.written c.in_ok-write_synced.ensures.durable in
    let grown = open_done g.S.Seal.format g.met.S.Seal.is_format old mid new before between after k.end k.gates.items p c.requires.room known ready (g.met.D.Disk.reads_stay c.write_synced.new.disk) (g.met.D.Disk.reads_stay c.write_synced-2.new.disk)
    c.in-Ok.ensures.written c.in-Ok.ensures.durable in
    let pushed = c.push_reserved.ensures.items in
    record {
      records = subst (λ (l : List ℕ). records_told g.S.Seal.format (length l) new ≡ option_map (λ kept. kept ++ p ∷ []) (records_told g.S.Seal.format (length k.gates.items) old)) (sym pushed) grown.records;
      held = ap length pushed ∙ length-append k.gates.items (k.end ∷ []);
      doubt = still_sure g.S.Seal.format.width k.in_doubt k.block.items c.write_block.new.block.items c.requires.settled;
      end = sym (end_same k.end g.S.Seal.format.width c.width.result (length p) c.width.ensures.width);
      faults = ap (λ (d : DiskState). d.faults) c.in-Ok.ensures.written ∙ ap (λ (d : DiskState). d.faults) c.in_ok-write_synced.ensures.written;
    }

pub returns-in-Ok-clause-time : goal.returns-in-Ok-clause-time
returns-in-Ok-clause-time g c =
    let k = c.args.self.now in
    let p = c.args.payload.now in
    let block = c.deref.result.now in
    let old = g.D.Disk.shown k.disk in
    let before = g.D.Disk.crashes k.disk in
    let mid = g.D.Disk.shown c.write_synced.new.disk in
    let between = g.D.Disk.crashes c.write_synced.new.disk in
    let known = subst (IsKnown g.S.Seal.format old before k.end k.gates.items) c.requires.settled k.known in
    let new = g.D.Disk.shown c.write_synced-2.new.disk in
    let after = g.D.Disk.crashes c.write_synced-2.new.disk in
    let ready = stage_done g.S.Seal.format g.met.S.Seal.is_format old mid before between k.end (k.end + 1) k.gates.items block p refl (spells g.S.Seal.format g.met.S.Seal.is_format (length k.gates.items) old p c.bytes.result.now block (c.deref.ensures.value ∙ c.write_block.ensures.bytes) c.bytes.ensures.count
    (seal_spelled g.S.Seal.format g.S.Seal.after k.seal c.next-seal.result (length k.gates.items) p c.bytes.result.now old c.next-seal.ensures c.bytes.ensures.seal k.sealed)) known
    (g.met.D.Disk.reads_stay k.disk) c.in_ok-write_synced.ensures.written c.in_ok-write_synced.ensures.durable in
    append_passes g.S.Seal.format g.met.S.Seal.is_format old mid new before between after k.end (k.end + 1) k.gates.items block p refl c.requires.room known ready
    (written_told (spliced k.end (1 ∷ [])) mid.reads new.reads (ap (λ (d : DiskState). d.reads) c.in-Ok.ensures.written)) c.write_synced.ensures.time c.write_synced-2.ensures.time

pub returns-in_err-write_synced-clause-images : goal.returns-in_err-write_synced-clause-images
returns-in_err-write_synced-clause-images g c =
    let k = c.args.self.now in
    let p = c.args.payload.now in
    let block = c.deref.result.now in
    let old = g.D.Disk.shown k.disk in
    let before = g.D.Disk.crashes k.disk in
    let between = g.D.Disk.crashes c.write_synced.new.disk in
    let known = subst (IsKnown g.S.Seal.format old before k.end k.gates.items) c.requires.settled k.known in
    stage_adds_files g.S.Seal.format g.met.S.Seal.is_format old before between k.end (k.end + 1) k.gates.items block p refl c.requires.room known c.write_synced.ensures.time

pub returns-in-Err-clause-images : goal.returns-in-Err-clause-images
returns-in-Err-clause-images g c =
    let k = c.args.self.now in
    let p = c.args.payload.now in
    let block = c.deref.result.now in
    let old = g.D.Disk.shown k.disk in
    let before = g.D.Disk.crashes k.disk in
    let mid = g.D.Disk.shown c.write_synced.new.disk in
    let between = g.D.Disk.crashes c.write_synced.new.disk in
    let known = subst (IsKnown g.S.Seal.format old before k.end k.gates.items) c.requires.settled k.known in
    let after = g.D.Disk.crashes c.write_synced-2.new.disk in
    let ready = stage_done g.S.Seal.format g.met.S.Seal.is_format old mid before between k.end (k.end + 1) k.gates.items block p refl (spells g.S.Seal.format g.met.S.Seal.is_format (length k.gates.items) old p c.bytes.result.now block (c.deref.ensures.value ∙ c.write_block.ensures.bytes) c.bytes.ensures.count
    (seal_spelled g.S.Seal.format g.S.Seal.after k.seal c.next-seal.result (length k.gates.items) p c.bytes.result.now old c.next-seal.ensures c.bytes.ensures.seal k.sealed)) known
    (g.met.D.Disk.reads_stay k.disk) c.in_ok-write_synced.ensures.written c.in_ok-write_synced.ensures.durable in
    append_adds_files g.S.Seal.format g.met.S.Seal.is_format old mid before between after k.end (k.end + 1) k.gates.items block p refl c.requires.room known ready c.write_synced.ensures.time c.write_synced-2.ensures.time

pub returns-in-Ok-clause-images : goal.returns-in-Ok-clause-images
returns-in-Ok-clause-images g c =
    let k = c.args.self.now in
    let p = c.args.payload.now in
    let block = c.deref.result.now in
    let old = g.D.Disk.shown k.disk in
    let before = g.D.Disk.crashes k.disk in
    let mid = g.D.Disk.shown c.write_synced.new.disk in
    let between = g.D.Disk.crashes c.write_synced.new.disk in
    let known = subst (IsKnown g.S.Seal.format old before k.end k.gates.items) c.requires.settled k.known in
    let after = g.D.Disk.crashes c.write_synced-2.new.disk in
    let ready = stage_done g.S.Seal.format g.met.S.Seal.is_format old mid before between k.end (k.end + 1) k.gates.items block p refl (spells g.S.Seal.format g.met.S.Seal.is_format (length k.gates.items) old p c.bytes.result.now block (c.deref.ensures.value ∙ c.write_block.ensures.bytes) c.bytes.ensures.count
    (seal_spelled g.S.Seal.format g.S.Seal.after k.seal c.next-seal.result (length k.gates.items) p c.bytes.result.now old c.next-seal.ensures c.bytes.ensures.seal k.sealed)) known
    (g.met.D.Disk.reads_stay k.disk) c.in_ok-write_synced.ensures.written c.in_ok-write_synced.ensures.durable in
    append_adds_files g.S.Seal.format g.met.S.Seal.is_format old mid before between after k.end (k.end + 1) k.gates.items block p refl c.requires.room known ready c.write_synced.ensures.time c.write_synced-2.ensures.time
