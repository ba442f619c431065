-- Stores: disks with the file of the records of a history, and what becomes of a disk that is
-- opened or closed as a store.
use Rattle.std.specs.Prelude.{◌≡◌, ◌∷◌, ◌++◌, ◌≢◌, ◌⊎◌, ◌≤◌, ℕ, List, [], length, map, take, IfSome}
use Rattle.std.specs.Prelude.{IsTrue, Option, Some, None, option_map, Result, Ok, Err}
use Rattle.std.specs.List.{AllByRecursion}
use Rattle.fedi_core.specs.Machines.{IsNextCode, Machine}
use Rattle.fedi_entry.specs.Codes.{code_of}
use Rattle.fedi_entry.specs.Fields.{IsFormed}
use Rattle.fedi_journal.specs.Chains.{chained}
use Rattle.fedi_outside.specs.Images.{IsImage, front}
use Rattle.fedi_outside.specs.Opening.{IsDamagedAt, IsNoStore, IsOlder}
use Rattle.fedi_journal.specs.Files.{HasRecords}
use Rattle.fedi_journal.specs.Opening.{disk_of}
use Rattle.fedi_journal.specs.declared.journal.SealedJournal.{SealedJournal}
use Rattle.fedi_journal.specs.declared.seals.Seal as seals
use Rattle.fedi_log.specs.Keeping.{State}
use Rattle.fedi_objects.specs.declared.entry.Entry.{Entry}
use Rattle.fedi_opening.specs.Opening.{IsDamaged}
use Rattle.fedi_outside.specs.Causes.{next_count}
use Rattle.fedi_outside.specs.Disks.{DiskCrashes, DiskState}
use Rattle.fedi_outside.specs.declared.disks.Disk as disks
use Rattle.fedi_startup.specs.declared.faults.StoreFault.{StoreFault}
use Rattle.fedi_startup.specs.declared.faults.StoreFault.TheVariants.{NotAStore, OldFormat}
use Rattle.fedi_startup.specs.declared.faults.StoreFault.TheVariants.{DamagedByte}
use Rattle.fedi_startup.specs.declared.faults.StoreFault.TheVariants.{DamagedRecord, Failed, Memory}
use Rattle.fedi_town.specs.Legal.{IsLegal}

-- ---- files

-- the records of a history
abbrev pub records_of : List Entry → List (List ℕ)
records_of history = map code_of history

-- where the records of a history end
abbrev pub end_of : List Entry → ℕ
end_of history = length (front chained (records_of history))

-- a machine may continue from this history: it is legal, and the fields of its entries are well
-- formed
pub record IsSound (history : List Entry) : Type 0 where
  pub legal : IsLegal history
  pub formed : AllByRecursion IsFormed history

-- the bytes are a file of the records of this history, which is not empty
pub record IsStoreOf (history : List Entry) (bytes : List ℕ) : Type 0 where
  pub some : history ≢ []
  pub sound : IsSound history
  pub file : IsImage chained (records_of history) bytes

-- the bytes are a file of records, and the record at this index is the first that is not the code
-- of an entry that may occur there
abbrev pub HasBadRecord : ℕ → List ℕ → Type 0
HasBadRecord place bytes =
    (rs : List (List ℕ)) × IsImage chained rs bytes
    × ((history : List Entry) × IsDamaged (Some rs) (length rs) place history)

-- the bytes are not a file of records, or a file without records
abbrev pub HasNoRecord : List ℕ → Type 0
HasNoRecord bytes = IsNoStore chained bytes ⊎ IsImage chained [] bytes

-- ---- what a crash leaves

-- a moment between these two
abbrev pub IsDuring : DiskCrashes → DiskCrashes → ℕ → Type 0
IsDuring before after moment = (before.clock ≤ moment) × (moment ≤ after.clock)

-- each image that a crash now may leave is a file of these records, or of these followed by the one
-- in doubt
abbrev pub LeavesFiles : DiskCrashes → List (List ℕ) → Option (List ℕ) → Type 0
LeavesFiles crashes records doubt =
    (image : List ℕ) → crashes.may_leave image → HasRecords chained records doubt image

-- each image that a crash at this moment or later may have left is such a file
abbrev pub LeftFiles : ℕ → DiskCrashes → List (List ℕ) → Option (List ℕ) → Type 0
LeftFiles moment crashes records doubt =
    (image : List ℕ) → crashes.left_since moment image → HasRecords chained records doubt image

-- ---- which stores these files are

-- this history, or this history followed by the entry in doubt
abbrev pub IsAround : List Entry → Option (List ℕ) → List Entry → Type 0
IsAround history doubt left =
    (left ≡ history) ⊎ ((e : Entry) × (doubt ≡ Some (code_of e)) × (left ≡ history ++ e ∷ []))

-- each image that a crash now may leave is a store of this history, or of it followed by the entry
-- in doubt, which may come next
pub record LeavesStores (crashes : DiskCrashes) (history : List Entry)
    (doubt : Option (List ℕ)) : Type 0 where
  pub some : history ≢ []
  pub sound : IsSound history
  pub doubted : IfSome doubt (IsNextCode history)
  pub files : LeavesFiles crashes (records_of history) doubt

-- ---- opening

-- The machine was opened over this disk: it has the history of the disk's file, and nothing is in
-- doubt.
pub record IsOpened (disk : DiskState) (s : State) : Type 0 where
  pub some : s.history ≢ []
  pub sound : IsSound s.history
  pub stored : IfSome disk.reads (IsStoreOf s.history)
  pub records : s.keeper.records ≡ option_map (λ _. records_of s.history) disk.reads
  pub held : s.keeper.held ≡ length s.history
  pub doubt : s.keeper.doubt ≡ None
  pub end : IfSome disk.reads (λ _. s.keeper.end ≡ end_of s.history)
  pub faults : s.keeper.faults ≡ disk.faults

-- why no machine was opened over this disk
abbrev pub IsNotOpened : StoreFault → DiskState → Type 0
IsNotOpened NotAStore disk = IfSome disk.reads HasNoRecord
IsNotOpened OldFormat disk = IfSome disk.reads (IsOlder chained)
IsNotOpened (DamagedByte place) disk = IfSome disk.reads (IsDamagedAt chained place)
IsNotOpened (DamagedRecord place) disk = IfSome disk.reads (HasBadRecord place)
IsNotOpened Failed disk = Unit {0}
IsNotOpened Memory disk = IfSome disk.reads (λ bytes. take 8 bytes ≡ chained.magic)

-- how many faults are counted after this one
abbrev pub count_after : StoreFault → ℕ → ℕ
count_after NotAStore n = n
count_after OldFormat n = n
count_after (DamagedByte place) n = n
count_after (DamagedRecord place) n = n
count_after Failed n = next_count n
count_after Memory n = n

-- no machine was opened, and a fault of the disk is counted
pub record ComesBack (fault : StoreFault) (before after : DiskState) : Type 0 where
  pub why : IsNotOpened fault before
  pub faults : after.faults ≡ count_after fault before.faults

-- the disk of the machine, or the one that was returned
abbrev pub disk_left : {D S E : Type 0} {disk_ghosts : disks.Ghosts D}
    {seal_ghosts : seals.Ghosts S}
    → Result (Machine (SealedJournal D S disk_ghosts seal_ghosts)) (E × D) → D
disk_left (Ok core) = disk_of core.keeper
disk_left (Err back) = back.1

-- ---- closing

-- The disk keeps what this machine has: its file has the records of the machine's history, followed
-- by at most the one in doubt, which may come next, and so does each image that a crash now may
-- leave.
pub record IsClosed (disk : DiskState) (crashes : DiskCrashes) (s : State) : Type 0 where
  pub sound : IsSound s.history
  pub doubted : IfSome s.keeper.doubt (IsNextCode s.history)
  pub records : s.keeper.records ≡ option_map (λ _. records_of s.history) disk.reads
  pub held : s.keeper.held ≡ length s.history
  pub file : IfSome disk.reads (HasRecords chained (records_of s.history) s.keeper.doubt)
  pub leaves : IfSome disk.reads (λ _. LeavesFiles crashes (records_of s.history) s.keeper.doubt)
  pub faults : s.keeper.faults ≡ disk.faults
