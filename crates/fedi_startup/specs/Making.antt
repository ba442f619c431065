-- What becomes of a disk that is made a store.
use Rattle.std.specs.Prelude.{◌≡◌, ◌⊎◌, ℕ, List, [], IfSome, Option, Some, None, is_some}
use Rattle.fedi_journal.specs.Chains.{chained}
use Rattle.fedi_outside.specs.Images.{IsImage}
use Rattle.fedi_journal.specs.Files.{HasRecords}
use Rattle.fedi_journal.specs.Making.{IsOther, blank}
use Rattle.fedi_objects.specs.declared.entry.Entry.{Entry}
use Rattle.fedi_outside.specs.Causes.{next_count}
use Rattle.fedi_outside.specs.Disks.{DiskCrashes, DiskState, Elapses, IsTorn, MayTear}
use Rattle.fedi_startup.specs.Stores.{IsDuring, IsStoreOf, LeavesFiles, LeftFiles, records_of}
use Rattle.fedi_startup.specs.declared.faults.MakeFault.{MakeFault}
use Rattle.fedi_startup.specs.declared.faults.MakeFault.TheVariants.{Exists, Failed, Full, Memory}

-- it was not both longer than a journal without records and different at the beginning
abbrev pub WasFree : Option (List ℕ) → Type 0
WasFree reads = IfSome reads (λ bytes. IsOther chained bytes → ⊥)

-- the disk was made the store of this history, and a crash now leaves its records
pub record IsMade (history : List Entry) (before after : DiskState)
    (crashes : DiskCrashes) : Type 0 where
  pub free : WasFree before.reads
  pub told : is_some after.reads ≡ is_some before.reads
  pub stored : IfSome after.reads (IsStoreOf history)
  pub leaves : IfSome after.reads (λ _. LeavesFiles crashes (records_of history) None)
  pub faults : after.faults ≡ before.faults

-- reads give the same bytes, or the disk was free, and they give the bytes of a file without
-- records
abbrev pub MayBeEmpty : Option (List ℕ) → Option (List ℕ) → Type 0
MayBeEmpty None after = after ≡ None
MayBeEmpty (Some bytes) after =
    (other : List ℕ) × (after ≡ Some other)
    × ((other ≡ bytes) ⊎ ((IsOther chained bytes → ⊥) × IsImage chained [] other))

-- Reads give the same bytes. Or the disk was free, and the first nine bytes are torn, or reads give
-- the bytes of a file without records, or with this one.
abbrev pub MayBeBegun : List ℕ → Option (List ℕ) → Option (List ℕ) → Type 0
MayBeBegun code None after = after ≡ None
MayBeBegun code (Some bytes) after =
    (other : List ℕ) × (after ≡ Some other)
    × ((other ≡ bytes)
    ⊎ ((IsOther chained bytes → ⊥)
    × (IsTorn 0 (blank chained) bytes other ⊎ HasRecords chained [] (Some code) other)))

-- why the disk was not made a store whose first record is this one, and what became of it
abbrev pub IsNotMade : List ℕ → MakeFault → DiskState → DiskState → Type 0
IsNotMade code Exists before after =
    IfSome before.reads (IsOther chained) × (after.reads ≡ before.reads)
    × (after.faults ≡ before.faults)
IsNotMade code Full before after = ⊥
IsNotMade code Failed before after =
    MayBeBegun code before.reads after.reads × (after.faults ≡ next_count before.faults)
IsNotMade code Memory before after =
    MayBeEmpty before.reads after.reads × (after.faults ≡ before.faults)

-- an image that an earlier crash might have left, except that its first nine bytes may be torn, or
-- a file of no record, or of this one
abbrev pub MayBegin : List ℕ → DiskCrashes → List ℕ → Type 0
MayBegin code before image =
    MayTear 0 (blank chained) before image ⊎ HasRecords chained [] (Some code) image

-- What crashes may leave once a disk whose bytes were known has been a journal without records
-- since this moment: such images, and from that moment on files of no record, or of this one.
abbrev pub LeavesFirst : List ℕ → ℕ → DiskCrashes → DiskCrashes → Type 0
LeavesFirst code moment before after =
    Elapses before after (MayBegin code before) × LeftFiles moment after [] (Some code)

-- What a crash may leave while a disk whose reads gave these bytes is made a store with this first
-- record: an image that an earlier crash might have left, except that its first nine bytes may be
-- torn; or, if the call got that far, a file of no record, or of this one, and from some moment of
-- the call on such a file alone.
abbrev pub LeavesAtMost : List ℕ → Option (List ℕ) → DiskCrashes → DiskCrashes → Type 0
LeavesAtMost code reads before after =
    Elapses before after (MayTear 0 (blank chained) before)
    ⊎ ((moment : ℕ) × IsDuring before after moment
    × IfSome reads (λ _. LeavesFirst code moment before after))
