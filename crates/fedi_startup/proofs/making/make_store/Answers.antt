use Rattle.std.proofs.Common.{arith, ap, sym, subst, ◌∙◌, List, [], ◌∷◌, ℕ}
use Rattle.fedi_entry.specs.Codes.{code_of}
use Rattle.fedi_objects.specs.declared.entry.Entry.TheVariants.{Hosted}
use Rattle.fedi_startup.specs.Making.{IsNotMade, LeavesAtMost}
use Rattle.fedi_startup.specs.declared.faults.MakeFault.TheVariants.{Failed, Memory}
use Rattle.fedi_startup.proofs.MakingSteps.{added_in_room, at_most, blank_records, has_failed, is_made, no_memory, not_begun, room_since, written_since}
use Rattle.fedi_startup.proofs.Told.{faults_here, records_here}
use Rattle.fedi_startup.proofs.making.make_store.Goals as goal
use Rattle.fedi_startup.proofs.making.make_store.Goals.{in-Ok-append, in-Err-append}

pub returns-in-Err-init-clause-refused : goal.returns-in-Err-init-clause-refused
returns-in-Err-init-clause-refused g c =
    let e = c.in-Err-init.ensures in
    rw c.into.ensures (not_begun c.in-Err-init.fault _ _ _ _ _ e.unmade e.stays)

pub returns-in-Err-Memory-clause-refused : goal.returns-in-Err-Memory-clause-refused
returns-in-Err-Memory-clause-refused g c =
    let same = c.into_disk.ensures.disk in
    let spelled = c.in-Ok.ensures.code ∙ ap code_of c.first_entry-entry.ensures.entry in
    let start = g.D.Disk.shown c.args.disk in
    let after = g.D.Disk.shown c.into_disk.result in
    subst (λ (code : List ℕ). IsNotMade code Memory start after) spelled
    (no_memory start after (g.D.Disk.crashes c.into_disk.result) _ _ c.in-Ok.code.items _
    c.in-Ok-init.ensures.fresh c.in-Ok-init.ensures.shown (records_here g.D.Disk.shown _ _ _ same) (faults_here g.D.Disk.shown _ _ same)
    c.into_disk.ensures.images (g.met.D.Disk.reads_stay c.into_disk.result) c.in-Err-Memory.ensures.shown)

pub returns-in-Err-Memory-clause-time : goal.returns-in-Err-Memory-clause-time
returns-in-Err-Memory-clause-time g c =
    let journal = c.in-Ok-init.journal in
    let ready = c.reserve.new.self in
    let first = c.in-Ok-init.ensures in
    let code = code_of (Hosted c.args.host c.args.moment) in
    let room = c.in-Err-Memory.ensures.outside in
    subst (λ d. LeavesAtMost code (g.D.Disk.shown c.args.disk).reads (g.D.Disk.crashes c.args.disk) (g.D.Disk.crashes d)) (sym c.into_disk.ensures.disk)
    (at_most code (g.D.Disk.shown c.args.disk) (g.D.Disk.shown journal.disk) (g.D.Disk.crashes c.args.disk) (g.D.Disk.crashes journal.disk) (g.D.Disk.crashes ready.disk)
    (g.met.D.Disk.only_now journal.disk) first.written first.durable first.time room.clock
    (room_since code (g.D.Disk.shown journal.disk) (g.D.Disk.shown ready.disk) (g.D.Disk.crashes journal.disk) (g.D.Disk.crashes ready.disk) room))

pub returns-clause-made : goal.returns-clause-made
returns-clause-made g c =
    let same = c.into_disk-2.ensures.disk in
    elim c.match-append.branch [
      | in-Ok-append w ↦ rw w.made-is (is_made (g.D.Disk.shown c.args.disk) (g.D.Disk.shown c.into_disk-2.result) (g.D.Disk.crashes c.into_disk-2.result) _ _ c.deref.result.now _
          c.in-Ok-init.ensures.fresh c.in-Ok-init.ensures.shown (records_here g.D.Disk.shown _ _ _ same) (faults_here g.D.Disk.shown _ _ same)
          c.into_disk-2.ensures.images (g.met.D.Disk.reads_stay c.into_disk-2.result) _ (added_in_room _ _ _ _ _ c.in-Ok-reserve.ensures.shown w.in-Ok-append.ensures.added)
          (Hosted c.args.host c.args.moment ∷ []) (λ e. absurd cc) c.first_entry-entry.ensures.sound
          (ap (λ (code : List ℕ). code ∷ []) (c.deref.ensures.value ∙ (c.in-Ok.ensures.code ∙ ap code_of c.first_entry-entry.ensures.entry))))
      | in-Err-append w ↦ rw w.made-is tt
    ]

pub returns-clause-refused : goal.returns-clause-refused
returns-clause-refused g c =
    let same = c.into_disk-2.ensures.disk in
    let spelled = c.deref.ensures.value ∙ (c.in-Ok.ensures.code ∙ ap code_of c.first_entry-entry.ensures.entry) in
    let start = g.D.Disk.shown c.args.disk in
    let after = g.D.Disk.shown c.into_disk-2.result in
    elim c.match-append.branch [
      | in-Ok-append w ↦ rw w.made-is tt
      | in-Err-append w ↦ rw w.made-is (subst (λ (code : List ℕ). IsNotMade code Failed start after) spelled
          (has_failed start after (g.D.Disk.crashes c.into_disk-2.result) _ _ c.deref.result.now _
          c.in-Ok-init.ensures.fresh c.in-Ok-init.ensures.shown (records_here g.D.Disk.shown _ _ _ same) (faults_here g.D.Disk.shown _ _ same)
          c.into_disk-2.ensures.images (g.met.D.Disk.reads_stay c.into_disk-2.result) _ c.in-Ok-reserve.ensures.shown w.in-Err-append.ensures.refused))
    ]

pub returns-clause-time : goal.returns-clause-time
returns-clause-time g c =
    let journal = c.in-Ok-init.journal in
    let ready = c.reserve.new.self in
    let later = c.append.new.self in
    let first = c.in-Ok-init.ensures in
    let room = c.in-Ok-reserve.ensures in
    let start = g.D.Disk.shown c.args.disk in
    let code = c.deref.result.now in
    let spelled = c.deref.ensures.value ∙ (c.in-Ok.ensures.code ∙ ap code_of c.first_entry-entry.ensures.entry) in
    subst (λ d. LeavesAtMost (code_of (Hosted c.args.host c.args.moment)) start.reads (g.D.Disk.crashes c.args.disk) (g.D.Disk.crashes d)) (sym c.into_disk-2.ensures.disk)
    (subst (λ (text : List ℕ). LeavesAtMost text start.reads (g.D.Disk.crashes c.args.disk) (g.D.Disk.crashes later.disk)) spelled
    (at_most code start (g.D.Disk.shown journal.disk) (g.D.Disk.crashes c.args.disk) (g.D.Disk.crashes journal.disk) (g.D.Disk.crashes later.disk)
    (g.met.D.Disk.only_now journal.disk) first.written first.durable first.time (omega (arith, room.outside.clock, c.append.ensures.time.clock))
    (written_since code (g.D.Disk.shown journal.disk) (g.D.Disk.shown ready.disk) (g.D.Disk.crashes journal.disk) (g.D.Disk.crashes ready.disk) (g.D.Disk.crashes later.disk) _ room.outside
    (blank_records start (g.D.Disk.shown journal.disk) _ _ first.shown room.shown first.written) c.append.ensures.images)))
