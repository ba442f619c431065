-- How a run moves the records of a store to a second disk.
use Rattle.std.specs.Prelude.{◌≡◌, ◌≢◌, ◌⊎◌, ℕ, List, [], ◌++◌, codes, decimal, length}
use Rattle.std.specs.Prelude.{IfSome, Option, Some, Result, Ok, Err}
use Rattle.fedi_journal.specs.Chains.{chained, hidden}
use Rattle.fedi_journal.specs.Hiding.{IsHiddenOr, IsNotFilled, IsNotHidden, IsTooLong, IsVisible}
use Rattle.fedi_journal.specs.Hiding.{KeepsVisible}
use Rattle.fedi_journal.specs.Making.{blank}
use Rattle.fedi_journal.specs.declared.faults.CopyFault.{CopyFault}
use Rattle.fedi_journal.specs.declared.faults.CopyFault.TheVariants as copies
use Rattle.fedi_journal.specs.declared.faults.InitFault.{InitFault}
use Rattle.fedi_logged.specs.Endings.{Output, Writes}
use Rattle.fedi_objects.specs.declared.entry.Entry.{Entry}
use Rattle.fedi_opening.specs.Opening.{IsDamaged, IsRead, IsStopped, after_open}
use Rattle.fedi_opening.specs.declared.fault.OpenFault.{OpenFault}
use Rattle.fedi_outside.specs.Disks.{DiskCrashes, DiskState, Elapses, MayTear}
use Rattle.fedi_outside.specs.Images.{Format, IsImage, plain}
use Rattle.fedi_outside.specs.Keepers.{KeeperState}
use Rattle.fedi_outside.specs.Opening.{IsDamagedAt, IsNoStore}
use Rattle.fedi_outside.specs.declared.disks.Disk.{Ghosts as DiskGhosts}
use Rattle.fedi_startup.specs.Faults.{of_init, of_opening}
use Rattle.fedi_startup.specs.Stores.{IsDuring, IsSound, IsStoreOf, count_after, records_of}
use Rattle.fedi_startup.specs.declared.faults.StoreFault.{StoreFault}
use Rattle.fedi_startup.specs.declared.faults.StoreFault.TheVariants as stores
use Rattle.fedi_program.specs.Endings.{Prints}
use Rattle.fedi_program.specs.Members.{Reports}
use Rattle.fedi_program.specs.Seen.{Medium, medium}
use Rattle.fedi_program.specs.Stores.{IsSame, ReportsMaking, ReportsStore}

-- ---- the store that is moved

-- it holds of this format, or of the one before it
abbrev pub InEither : (Format → Type 0) → Type 0
InEither P = P chained ⊎ P plain

-- the bytes are a file of the records of this history, which is not empty, in this format
pub record IsStoreIn (f : Format) (history : List Entry) (bytes : List ℕ) : Type 0 where
  pub some : history ≢ []
  pub sound : IsSound history
  pub file : IsImage f (records_of history) bytes

-- the bytes are the store of this history, in either format
abbrev pub IsEitherStore : List Entry → List ℕ → Type 0
IsEitherStore history bytes = InEither (λ f. IsStoreIn f history bytes)

-- the bytes are a file of records in this format, and the record at this index is the first that is
-- not the code of an entry that may occur there
abbrev pub HasBadRecordIn : Format → ℕ → List ℕ → Type 0
HasBadRecordIn f place bytes =
    (rs : List (List ℕ)) × IsImage f rs bytes
    × ((history : List Entry) × IsDamaged (Some rs) (length rs) place history)

-- why the disk is not the store of a history, in either format
abbrev pub IsNotRead : StoreFault → DiskState → Type 0
IsNotRead stores.NotAStore disk =
    IfSome disk.reads (λ bytes. IsNoStore chained bytes ⊎ InEither (λ f. IsImage f [] bytes))
IsNotRead stores.OldFormat disk = ⊥
IsNotRead (stores.DamagedByte place) disk =
    IfSome disk.reads (λ bytes. InEither (λ f. IsDamagedAt f place bytes))
IsNotRead (stores.DamagedRecord place) disk =
    IfSome disk.reads (λ bytes. InEither (λ f. HasBadRecordIn f place bytes))
IsNotRead stores.Failed disk = Unit {0}
IsNotRead stores.Memory disk = Unit {0}

-- ---- the disk that it is moved to

-- an image that an earlier crash might have left, except that its first nine bytes may be torn; or a
-- hidden file, or a file of exactly these records
abbrev pub MayFill : List (List ℕ) → DiskCrashes → List ℕ → Type 0
MayFill kept before image = MayTear 0 (blank hidden) before image ⊎ IsHiddenOr kept image

-- What a crash leaves of a disk that is filled with these records: such images, and from some moment
-- of the run on only hidden files, or files of exactly these records.
pub record FillsAtMost (kept : List (List ℕ)) (before after : DiskCrashes) : Type 0 where
  pub along : Elapses before after (MayFill kept before)
  pub moment : ℕ
  pub during : IsDuring before after moment
  pub whole : (image : List ℕ) → after.left_since moment image → IsHiddenOr kept image

-- the disk is the store of this history, and so is each image that a crash now leaves
pub record IsFilled (history : List Entry) (disk : DiskState) (crashes : DiskCrashes) : Type 0 where
  pub stored : IfSome disk.reads (IsStoreOf history)
  pub leaves : IfSome disk.reads
      (λ _. (image : List ℕ) → crashes.may_leave image → IsStoreOf history image)

-- ---- what is printed

-- the line that says how many entries were moved
unfoldable pub moved_line : ℕ → List ℕ
moved_line count = codes "moved " ++ (decimal count ++ codes " entries\n")

-- what is printed about records that were not moved, which is nothing if memory ran out, and the
-- status
abbrev pub ReportsFilling : CopyFault → Output → Output → ℕ → Type 0
ReportsFilling copies.Source first now status =
    Reports first now 5 (codes "disk fault\n") status
ReportsFilling copies.Failed first now status =
    Reports first now 5 (codes "disk fault\n") status
ReportsFilling copies.Full first now status = Reports first now 13 (codes "full\n") status
ReportsFilling copies.Memory first now status = (status ≡ 12) × Writes first now []

-- ---- what a run does

-- The second disk was not hidden, because it has other bytes (9) or failed (5): other bytes stay, by
-- reads and by crashes, and of what a crash may leave at most the first nine bytes were torn.
abbrev pub EndsHiding : Medium → Medium → Output → Output → ℕ → Type 0
EndsHiding before after first now status =
    (fault : InitFault) × IsNotHidden fault before.shown after.shown
    × KeepsVisible before.shown after.shown before.crashes after.crashes
    × Elapses before.crashes after.crashes (MayTear 0 (blank hidden) before.crashes)
    × ReportsMaking (of_init fault) first now status

-- It was hidden, and then filled with the records of this history, or not: these failed, by the
-- count of their faults before and after (5), or the disk did (5), or they are too long for it (13),
-- or memory ran out (12).
abbrev pub EndsFilling : {A : Type 0} → Option A → List Entry → ℕ → ℕ → Medium → Medium → Output
    → Output → ℕ → Type 0
EndsFilling known history was is before after first now status =
    ((fault : CopyFault) × IsNotFilled fault was is before.shown.faults after.shown.faults
    × (fault ≡ copies.Full
    → IfSome known (λ _. IfSome before.shown.reads (λ _. IsTooLong (records_of history))))
    × ReportsFilling fault first now status)
    ⊎ ((is ≡ was) × (after.shown.faults ≡ before.shown.faults)
    × IfSome known (λ _. IsFilled history after.shown after.crashes)
    × Prints first now (moved_line (length history)) status)

-- How the records of this history are moved to the second disk. If they are known, and the bytes of
-- that disk are, a crash leaves it hidden or with exactly these records, once it was hidden.
abbrev pub MovesTo : {A : Type 0} → Option A → List Entry → ℕ → ℕ → Medium → Medium → Output
    → Output → ℕ → Type 0
MovesTo known history was is before after first now status =
    ((is ≡ was) × EndsHiding before after first now status)
    ⊎ (IfSome before.shown.reads (λ bytes. IsVisible bytes → ⊥)
    × IfSome known (λ _. IfSome before.shown.reads
    (λ _. FillsAtMost (records_of history) before.crashes after.crashes))
    × EndsFilling known history was is before after first now status)

-- How a run moves the records of the store of a disk to a second disk. The first disk is untouched.
-- It is not the store of a history, which is reported, and the second disk is not asked; or it is,
-- and the records of that history are moved.
abbrev pub Migrates : {D : Type 0} → DiskGhosts D → Medium → Medium → D → D → Output → Output → ℕ
    → Type 0
Migrates disks old left before after first now status =
    IsSame old left
    × (((fault : StoreFault) × IsNotRead fault old.shown
    × (left.shown.faults ≡ count_after fault old.shown.faults) × (after ≡ before)
    × ReportsStore fault first now status)
    ⊎ ((history : List Entry) × IfSome old.shown.reads (IsEitherStore history)
    × MovesTo old.shown.reads history old.shown.faults left.shown.faults
    (medium disks before) (medium disks after) first now status))

-- ---- over the records of a keeper

-- the keeper that was judged, in either case
abbrev pub keeper_left : {E P : Type 0} → Result P (E × P) → P
keeper_left (Ok keeper) = keeper
keeper_left (Err back) = back.1

-- how the records of a keeper are moved to the second disk
abbrev pub MovesFrom : {D : Type 0} → DiskGhosts D → KeeperState → KeeperState → D → D → Output
    → Output → ℕ → Type 0
MovesFrom disks was is before after first now status =
    ((fault : OpenFault) × (read : List Entry) × IsStopped fault was read
    × (is ≡ after_open {T = ℕ} (Err fault) was) × (after ≡ before)
    × ReportsStore (of_opening fault) first now status)
    ⊎ ((history : List Entry) × (was.held ≢ 0) × IsRead was.records was.held history
    × MovesTo was.records history was.faults is.faults (medium disks before) (medium disks after)
    first now status)
