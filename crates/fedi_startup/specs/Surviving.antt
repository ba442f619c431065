-- What a crash at any moment of a run may leave of a disk.
use Rattle.std.specs.Prelude.{◌≡◌, [], ◌∷◌, ◌++◌, ◌⊎◌, ℕ, ◌+◌, ◌≤◌, List, Contains, Option}
use Rattle.fedi_journal.specs.Chains.{chained}
use Rattle.fedi_outside.specs.Images.{IsImage}
use Rattle.fedi_entry.specs.Codes.{code_of}
use Rattle.fedi_log.specs.Keeping.{Base, State, base_of}
use Rattle.fedi_log.specs.Leaving.{IsLeft}
use Rattle.fedi_log.specs.Log.{Log, doubts_of, history_of}
use Rattle.fedi_outside.specs.Disks.{DiskCrashes}
use Rattle.fedi_outside.specs.Keepers.{MayLeave}
use Rattle.fedi_objects.specs.declared.entry.Entry.{Entry}
use Rattle.fedi_startup.specs.Stores.{IsAround, IsDuring, IsStoreOf, LeavesFiles, LeavesStores}
use Rattle.fedi_startup.specs.Stores.{records_of}

-- a record of this length moves the end by this much
abbrev pub growth : ℕ → ℕ
growth length = 41 + length

-- and beforehand the end has to be this far from the limit
abbrev pub room : ℕ → ℕ
room length = 42 + length

-- the keeper of a machine that was opened so
abbrev pub opened_base : State → Base
opened_base opened = base_of growth room opened

-- If each image that a crash before the run may leave is a file of these records, or of these
-- followed by the one in doubt, then an image that a crash during the run may leave is such a file
-- too, or a file of the records that the opening found, followed by those of the first entries that
-- the run kept, none or more, and by at most one that was in doubt then.
abbrev pub LeavesAlong : DiskCrashes → DiskCrashes → State → Log → Type 0
LeavesAlong before after opened log =
    (records : List (List ℕ)) (doubt : Option (List ℕ)) → LeavesFiles before records doubt
    → (image : List ℕ) → after.left_since before.clock image
    → (left : List (List ℕ)) × IsImage chained left image
    × (MayLeave records doubt left
    ⊎ IsLeft (opened_base opened) log (records_of opened.history) left)

-- From this moment on, whatever an earlier crash may have left, a crash left a file of the records
-- that the opening found, followed by those of the first entries that the run kept, none or more,
-- and by at most one that was in doubt then.
abbrev pub LeavesFoundFrom : ℕ → DiskCrashes → State → Log → Type 0
LeavesFoundFrom moment after opened log =
    (image : List ℕ) → after.left_since moment image
    → (left : List (List ℕ)) × IsImage chained left image
    × IsLeft (opened_base opened) log (records_of opened.history) left

-- crashes during the run left such files along the log, and from some moment of the run on without
-- a premise
pub record SurvivesOnDisk (before after : DiskCrashes) (opened : State) (log : Log) : Type 0 where
  pub along : LeavesAlong before after opened log
  pub moment : ℕ
  pub during : IsDuring before after moment
  pub found : LeavesFoundFrom moment after opened log

-- ---- as stores

-- the history that was opened, followed by the first of the entries that these items added, none or
-- more, and by at most one more entry, whose record was in doubt then
abbrev pub IsFirstPart : List Entry → Log → List Entry → Type 0
IsFirstPart opened added left =
    (past : Log) × (rest : Log) × (added ≡ past ++ rest)
    × ((left ≡ opened ++ history_of past)
    ⊎ ((e : Entry) × Contains (doubts_of [] past) (code_of e)
    × (left ≡ (opened ++ history_of past) ++ e ∷ [])))

-- If each image that a crash before the run may leave is a store of some history, or of it followed
-- by the entry in doubt, then an image that a crash during the run may leave is such a store too,
-- or a store of the history that was opened, followed by the first entries that the run kept, none
-- or more, and by at most the one entry that was in doubt then. So whatever it is, it can be
-- opened.
abbrev pub LeavesStoresAlong : DiskCrashes → DiskCrashes → List Entry → Log → Type 0
LeavesStoresAlong before after opened added =
    (history : List Entry) (doubt : Option (List ℕ)) → LeavesStores before history doubt
    → (image : List ℕ) → after.left_since before.clock image
    → (left : List Entry) × IsStoreOf left image
    × (IsAround history doubt left ⊎ IsFirstPart opened added left)

-- From this moment on, whatever an earlier crash may have left, a crash left a store of the history
-- that was opened, followed by the first entries that the run kept, none or more, and by at most
-- the one entry that was in doubt then.
abbrev pub LeavesStoresFrom : ℕ → DiskCrashes → List Entry → Log → Type 0
LeavesStoresFrom moment after opened added =
    (image : List ℕ) → after.left_since moment image
    → (left : List Entry) × IsStoreOf left image × IsFirstPart opened added left

-- and so from some moment of the run on
abbrev pub LeavesStoresFound : DiskCrashes → DiskCrashes → List Entry → Log → Type 0
LeavesStoresFound before after opened added =
    (moment : ℕ) × IsDuring before after moment × LeavesStoresFrom moment after opened added
