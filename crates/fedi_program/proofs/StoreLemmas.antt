-- A machine that was opened over a disk, and closed.
use Rattle.std.proofs.Common.{◌≡◌, ℕ, Option, Some, None, List, [], inl, inr, refl, subst}
use Rattle.std.specs.Prelude.{IfSome}
use Rattle.fedi_address.specs.Hosts.{IsHost}
use Rattle.fedi_entry.specs.Codes.{code_of}
use Rattle.fedi_journal.specs.Chains.{chained}
use Rattle.fedi_outside.specs.Known.{record_crashes, records_told}
use Rattle.fedi_journal.specs.Making.{KeepsOther}
use Rattle.fedi_log.specs.Keeping.{HoldsFrom, State, since}
use Rattle.fedi_log.specs.Leaving.{CrashesAlong}
use Rattle.fedi_log.specs.Log.{Log, given}
use Rattle.fedi_objects.specs.declared.entry.Entry.TheVariants.{Hosted}
use Rattle.fedi_outside.proofs.Untouched.{untouched_now}
use Rattle.fedi_outside.specs.Disks.{DiskCrashes, DiskState, IsUntouched}
use Rattle.fedi_outside.specs.Keepers.{Crashes}
use Rattle.fedi_startup.proofs.Stored.{leaves_stores, stores_along, stores_found}
use Rattle.fedi_startup.proofs.Surviving.{survives_on_disk}
use Rattle.fedi_startup.specs.Making.{LeavesAtMost}
use Rattle.fedi_logged.specs.Marks.{MarksMayCome, Survives}
use Rattle.fedi_startup.specs.Stores.{IsClosed, IsOpened, LeavesFiles, records_of}
use Rattle.fedi_startup.specs.Surviving.{LeavesStoresAlong, LeavesStoresFound, SurvivesOnDisk, growth, opened_base, room}
use Rattle.fedi_logged.specs.Conversations.{IsNow}
use Rattle.fedi_logged.specs.Endings.{Output}
use Rattle.fedi_hall.specs.Serving.{EndsServing, ServesAll}
use Rattle.fedi_hall.specs.declared.serving.ServeEnd.{ServeEnd}
use Rattle.fedi_outside.specs.declared.disks.Disk.{Ghosts as DiskGhosts}
use Rattle.fedi_outside.specs.declared.doors.Bench.{Bench}
use Rattle.fedi_outside.specs.declared.doors.Door.{Ghosts as DoorGhosts}
use Rattle.fedi_outside.specs.declared.links.Link.{Ghosts as LinkGhosts}
use Rattle.fedi_program.specs.Seen.{Medium, medium, tells}
use Rattle.fedi_program.specs.Serving.{ServesDoors, status_after}
use Rattle.fedi_program.specs.Stores.{ChecksStore, Counts, EndsMaking, ExportsStore, IsNoHost, IsServed, IsServedAlone, MakesStore, PrintsTable, table_text}
use Rattle.fedi_program.specs.declared.commands.Table.{Table}
use Rattle.fedi_town.specs.Histories.{town}

-- A machine was opened over a disk, which then was as it was found, did something, and was closed.
pub record IsOver (before found after : Medium) (opened closed : State) : Type 0 where
  pub opens : IsOpened before.shown opened
  pub count : ℕ
  pub told : opened.keeper.records ≡ records_told chained count found.shown
  pub untouched : IsUntouched before.shown found.shown before.crashes found.crashes
  pub leaves : IfSome before.shown.reads
      (λ _. LeavesFiles found.crashes (records_of opened.history) None)
  pub first : (image : List ℕ) → before.crashes.left_since before.crashes.clock image
      → before.crashes.may_leave image
  pub only : (image : List ℕ) → found.crashes.left_since found.crashes.clock image
      → found.crashes.may_leave image
  pub closes : IsClosed after.shown after.crashes closed

-- what an opening and a closing say of the disk
pub over : {D : Type 0} (disks : DiskGhosts D)
    → ((d : D) (image : List ℕ) → (disks.crashes d).left_since (disks.crashes d).clock image
    → (disks.crashes d).may_leave image)
    → (disk found last : D) (opened closed : State) (count : ℕ)
    → IsOpened (disks.shown disk) opened
    → opened.keeper.records ≡ records_told chained count (disks.shown found)
    → IsUntouched (disks.shown disk) (disks.shown found) (disks.crashes disk) (disks.crashes found)
    → IfSome (disks.shown disk).reads
    (λ _. LeavesFiles (disks.crashes found) (records_of opened.history) None)
    → IsClosed (disks.shown last) (disks.crashes last) closed
    → IsOver (medium disks disk) (medium disks found) (medium disks last) opened closed
over disks only disk found last opened closed count opens told untouched leaves closes = record {
  opens = opens;
  count = count;
  told = told;
  untouched = untouched;
  leaves = leaves;
  first = only disk;
  only = only found;
  closes = closes;
}

-- what a crash may leave of the records on this disk
abbrev pub left : Medium → Crashes
left m = record_crashes chained m.shown m.crashes

module _ (before found after : Medium) (opened closed : State) where
  -- its keeper survived along a log
  pub served : (log : Log) → IsOver before found after opened closed
      → HoldsFrom (opened_base opened) (given opened.history) closed log
      → CrashesAlong (opened_base opened) log (left found) (left after) → MarksMayCome [] log
      → IsServed before after opened closed log
  served log k holds crashes marks = record {
    opens = k.opens;
    closes = k.closes;
    holds = holds;
    marks = marks;
    leaves = leaves_stores after.shown after.crashes opened closed log k.opens.some holds k.closes;
    files = files;
    stores = with_all before.shown.reads files;
    found = with_found before.shown.reads files;
  }
    where
      files : IfSome before.shown.reads (λ _. SurvivesOnDisk before.crashes after.crashes opened log)
      files = survives_on_disk before.shown found.shown after.shown before.crashes found.crashes
          after.crashes opened log k.count k.opens k.told k.untouched k.first k.leaves k.only crashes

      with_all : (reads : Option (List ℕ))
          → IfSome reads (λ _. SurvivesOnDisk before.crashes after.crashes opened log)
          → IfSome reads (λ _. LeavesStoresAlong before.crashes after.crashes opened.history
          (since (opened_base opened) log))
      with_all None all = tt
      with_all (Some bytes) all = stores_along before.crashes after.crashes opened closed log
          k.opens.some k.opens.doubt k.closes.sound holds marks all

      with_found : (reads : Option (List ℕ))
          → IfSome reads (λ _. SurvivesOnDisk before.crashes after.crashes opened log)
          → IfSome reads (λ _. LeavesStoresFound before.crashes after.crashes opened.history
          (since (opened_base opened) log))
      with_found None all = tt
      with_found (Some bytes) all = stores_found before.crashes after.crashes opened closed log
          k.opens.some k.opens.doubt k.closes.sound holds marks all

  -- and nobody else added to the log
  pub served_alone : (log : Log) → IsOver before found after opened closed
      → Survives (opened_base opened) None (given opened.history) log closed (left found) (left after)
      → IsServedAlone before after opened closed log
  served_alone log k survives =
      let alone = survives.holds.grown in
      let holds : HoldsFrom (opened_base opened) (given opened.history) closed log =
      record { past = alone.past; is = alone.is; holds = survives.holds.holds } in
      (served log k holds survives.crashes survives.marks, alone)

  -- it served the connections of many doors
  pub serves_doors : {W L K : Type 0} (doors : DoorGhosts W L) (links : LinkGhosts K)
      (told : Option ℕ) (first now : List (Bench W K)) (status : ℕ)
      → IsOver before found after opened closed
      → ServesAll growth room told opened (left found) closed (left after) doors.served (tells links)
      first now
      → (ending : ServeEnd) × (status ≡ status_after ending)
      × EndsServing doors.closed doors.faults first now ending
      → ServesDoors doors links told before after first now status
  serves_doors doors links told first now status k all ends =
      let stands = all.stands in
      let holds : HoldsFrom (opened_base opened) (given opened.history) closed all.log =
      record { past = stands.past; is = stands.begins; holds = stands.holds } in
      inr (
        opened,
        closed,
        all.log,
        served all.log k holds stands.crashed stands.marked,
        record { named = all.named; same = all.same; each = all.each },
        ends,
      )

-- ---- a machine that was only read

module _ (before found : Medium) (opened : State) where
  -- what it holds was counted
  pub checks : (first now : Output) (status : ℕ) → IsOver before found found opened opened
      → Survives (opened_base opened) None (given opened.history) (given opened.history) opened
      (left found) (left found)
      → Counts before.shown.reads first now opened.history status
      → ChecksStore before found first now status
  checks first now status k survives counts = inr (
    opened,
    (served_alone before found found opened opened (given opened.history) k survives).0,
    k.untouched,
    counts,
  )

  -- or a table of what it has was printed
  pub exports : (table : Table) (first now : Output) (status : ℕ)
      → IsOver before found found opened opened
      → Survives (opened_base opened) None (given opened.history) (given opened.history) opened
      (left found) (left found)
      → PrintsTable first now (table_text table (town opened.history)) status
      → ExportsStore table before found first now status
  exports table first now status k survives prints = inr (
    opened,
    (served_alone before found found opened opened (given opened.history) k survives).0,
    k.untouched,
    prints,
  )

-- ---- a disk that has no store

-- nothing was asked of the disk
pub not_asked : (shown : DiskState) (crashes : DiskCrashes) → KeepsOther chained shown shown crashes crashes
not_asked shown crashes = λ bytes is other. untouched_now shown crashes

-- no host was read, so the disk was not asked
pub no_host_made : {D : Type 0} (disks : DiskGhosts D) (told : Option ℕ) (disk : D) (first now : Output) (host : List ℕ) (status : ℕ) → IsNoHost host first now status
    → MakesStore disks told disk disk first now host status
no_host_made disks told disk first now host status (inl (twelve, wrote)) = inl (twelve, refl, wrote)
no_host_made disks told disk first now host status (inr (bad, reports)) = inr (inl (bad, refl, reports))

-- The host that was read is the text that was given.
pub making_ends : {D : Type 0} (disks : DiskGhosts D) (told : Option ℕ) (before after : D) (first now : Output)
    (host other : List ℕ) (moment status : ℕ) → other ≡ host → IsHost other → IsNow told moment
    → LeavesAtMost (code_of (Hosted other moment)) (disks.shown before).reads (disks.crashes before) (disks.crashes after)
    → EndsMaking (disks.shown before) (disks.shown after) (disks.crashes after) first now host (Hosted other moment) status
    → MakesStore disks told before after first now host status
making_ends disks told before after first now host other moment status same is moment_is time ends =
    inr (inr (
      subst IsHost same is,
      moment,
      moment_is,
      subst (λ (h : List ℕ). LeavesAtMost (code_of (Hosted h moment)) (disks.shown before).reads (disks.crashes before) (disks.crashes after)) same time,
      subst (λ (h : List ℕ). EndsMaking (disks.shown before) (disks.shown after) (disks.crashes after) first now host (Hosted h moment) status) same ends,
    ))
