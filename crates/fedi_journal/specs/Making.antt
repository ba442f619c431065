-- What becomes of a disk that is made a journal.
use Rattle.std.specs.Prelude.{ℕ, ◌≡◌, ◌<◌, List, [], ◌∷◌, ◌++◌, length, take, Some, None}
use Rattle.std.specs.Prelude.{option_map}
use Rattle.fedi_outside.specs.Causes.{next_count}
use Rattle.fedi_outside.specs.Disks.{DiskCrashes, DiskState, IsUntouched, TearsTold}
use Rattle.fedi_outside.specs.Keepers.{KeeperState}
use Rattle.fedi_outside.specs.Images.{Format}
use Rattle.fedi_journal.specs.declared.faults.InitFault.{InitFault}
use Rattle.fedi_journal.specs.declared.faults.InitFault.TheVariants.{Exists, Failed}

-- the bytes of a journal without records: the magic and a closed gate
abbrev pub blank : Format → List ℕ
blank f = f.magic ++ 0 ∷ []

-- what a journal without records that was made of this disk shows
abbrev pub blank_shown : DiskState → KeeperState
blank_shown before = record {
  records = option_map (λ _. []) before.reads;
  held = 0;
  doubt = None;
  spare = 0;
  end = 8;
  faults = before.faults;
}

-- these bytes are more than those of such a journal, and do not begin with them
abbrev pub IsOther : Format → List ℕ → Type 0
IsOther f bytes = (9 < length bytes) × (take 9 bytes ≡ blank f → ⊥)

-- if the disk has such bytes, it is untouched
abbrev pub KeepsOther : Format → DiskState → DiskState → DiskCrashes → DiskCrashes → Type 0
KeepsOther f before after was now = (bytes : List ℕ) → before.reads ≡ Some bytes → IsOther f bytes
    → IsUntouched before after was now

-- a disk was not made a journal: if it has other bytes, all is as before; if it failed, its first
-- nine bytes may be torn
abbrev pub IsUnmade : Format → InitFault → DiskState → DiskState → Type 0
IsUnmade f Exists before after =
    (after.reads ≡ before.reads) × (after.faults ≡ before.faults)
    × ((bytes : List ℕ) → before.reads ≡ Some bytes → IsOther f bytes)
IsUnmade f Failed before after =
    TearsTold 0 (blank f) before.reads after.reads × (after.faults ≡ next_count before.faults)
