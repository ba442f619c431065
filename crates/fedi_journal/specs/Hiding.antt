-- A file that is not yet a journal.
use Rattle.std.specs.Prelude.{◌≡◌, ◌⊎◌, ◌+◌, ◌<◌, ◌≤◌, ◌^◌, ℕ, List, length, Some, Result, Ok}
use Rattle.std.specs.Prelude.{Err}
use Rattle.fedi_outside.specs.Causes.{next_count}
use Rattle.fedi_outside.specs.Disks.{DiskCrashes, DiskState, IsUntouched, TearsTold}
use Rattle.fedi_outside.specs.Images.{IsImage, front}
use Rattle.fedi_journal.specs.Chains.{IsHidden, chained, hidden}
use Rattle.fedi_journal.specs.Making.{blank}
use Rattle.fedi_outside.specs.Keepers.{KeeperState}
use Rattle.fedi_outside.specs.declared.disks.Disk as disks
use Rattle.fedi_journal.specs.Opening.{disk_of}
use Rattle.fedi_journal.specs.declared.faults.CopyFault.{CopyFault}
use Rattle.fedi_journal.specs.declared.faults.CopyFault.TheVariants as copies
use Rattle.fedi_journal.specs.declared.faults.CopyFault.TheVariants.{Source, Full}
use Rattle.fedi_journal.specs.declared.hidden.Hidden.{Hidden}
use Rattle.fedi_journal.specs.declared.faults.InitFault.{InitFault}
use Rattle.fedi_journal.specs.declared.faults.InitFault.TheVariants.{Exists, Failed}

-- the bytes are hidden, or a file of exactly these records
abbrev pub IsHiddenOr : List (List ℕ) → List ℕ → Type 0
IsHiddenOr kept bytes = IsHidden bytes ⊎ IsImage chained kept bytes

-- these bytes are more than a magic and a gate, and are not hidden
abbrev pub IsVisible : List ℕ → Type 0
IsVisible bytes = (9 < length bytes) × (IsHidden bytes → ⊥)

-- if the disk has such bytes, it is untouched
abbrev pub KeepsVisible : DiskState → DiskState → DiskCrashes → DiskCrashes → Type 0
KeepsVisible before after was now = (bytes : List ℕ) → before.reads ≡ Some bytes → IsVisible bytes
    → IsUntouched before after was now

-- why a disk was not hidden: if it has other bytes, all is as before; if it failed, its first nine
-- bytes may be torn
abbrev pub IsNotHidden : InitFault → DiskState → DiskState → Type 0
IsNotHidden Exists before after =
    (after.reads ≡ before.reads) × (after.faults ≡ before.faults)
    × ((bytes : List ℕ) → before.reads ≡ Some bytes → IsVisible bytes)
IsNotHidden Failed before after =
    TearsTold 0 (blank hidden) before.reads after.reads
    × (after.faults ≡ next_count before.faults)

-- the disk of a hidden file
abbrev pub disk_in : {D : Type 0} {ghosts : disks.Ghosts D} → Hidden D ghosts → D
disk_in file = disk_of file.journal

-- ---- filling

-- how far from the limit the end has to be before a record of this length is added
abbrev pub room : ℕ → ℕ
room length = 42 + length

-- these records end at the limit of a file, or after it
abbrev pub IsTooLong : List (List ℕ) → Type 0
IsTooLong kept = 2 ^ 62 ≤ length (front chained kept)

-- what a copy of records, or of one, made of the keeper that they come from and of the one that
-- they go to, in faults
abbrev pub IsCopied : {T : Type 0} → Result T CopyFault → KeeperState → KeeperState → KeeperState
    → KeeperState → Type 0
IsCopied (Ok x) was from before after = after.faults ≡ before.faults
IsCopied (Err Source) was from before after =
    (from.faults ≡ next_count was.faults) × (after.faults ≡ before.faults)
IsCopied (Err copies.Failed) was from before after =
    (from.faults ≡ was.faults) × (after.faults ≡ next_count before.faults)
IsCopied (Err Full) was from before after =
    (from.faults ≡ was.faults) × (after.faults ≡ before.faults)
IsCopied (Err copies.Memory) was from before after =
    (from.faults ≡ was.faults) × (after.faults ≡ before.faults)

-- why a file was not filled, by how many faults the keeper and the disk had counted before and have
-- counted now
abbrev pub IsNotFilled : CopyFault → ℕ → ℕ → ℕ → ℕ → Type 0
IsNotFilled Source was from before after = (from ≡ next_count was) × (after ≡ before)
IsNotFilled copies.Failed was from before after = (from ≡ was) × (after ≡ next_count before)
IsNotFilled Full was from before after = (from ≡ was) × (after ≡ before)
IsNotFilled copies.Memory was from before after = (from ≡ was) × (after ≡ before)
