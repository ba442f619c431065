-- What an opening finds of the records that a keeper holds.
use Rattle.std.specs.Prelude.{◌≡◌, ◌≢◌, ◌<◌, ℕ, IfSome, IsTrue, List, length, map, Option, Some}
use Rattle.std.specs.Prelude.{Result, Ok, Err, slice_get, take}
use Rattle.std.specs.List.{AllByRecursion}
use Rattle.fedi_entry.specs.Codes.{code_of}
use Rattle.fedi_entry.specs.Fields.{IsFormed}
use Rattle.fedi_objects.specs.declared.entry.Entry.{Entry}
use Rattle.fedi_outside.specs.Keepers.{KeeperState, after_fault}
use Rattle.fedi_town.specs.Histories.{town}
use Rattle.fedi_town.specs.Legal.{IsLegal, is_admissible}
use Rattle.fedi_town.specs.Towns.{Town}
use Rattle.fedi_opening.specs.declared.fault.OpenFault.{OpenFault}
use Rattle.fedi_opening.specs.declared.fault.OpenFault.TheVariants.{Failed, Damaged, Empty, Memory}

-- the entry may come next, and its fields are well formed
pub record IsNext (t : Town) (e : Entry) : Type 0 where
  pub formed : IsFormed e
  pub admissible : IsTrue (is_admissible t e)

-- The history is that of this many first records: it is legal, the fields of its entries are well
-- formed, and if the records are known, they are the codes of its entries in order.
pub record IsRead (records : Option (List (List ℕ))) (count : ℕ)
    (history : List Entry) : Type 0 where
  pub legal : IsLegal history
  pub formed : AllByRecursion IsFormed history
  pub counted : length history ≡ count
  pub spelled : IfSome records (λ told. map code_of history ≡ take count told)

-- the record at this index is the code of no entry that may come next
abbrev pub IsOfNone : Town → List (List ℕ) → ℕ → Type 0
IsOfNone t records place = (e : Entry) → IsNext t e → slice_get records place ≢ Some (code_of e)

-- The first damaged record is at this index: the history is that of the records before it, and if
-- the records are known, this one is the code of no entry that may come next.
pub record IsDamaged (records : Option (List (List ℕ))) (held place : ℕ)
    (history : List Entry) : Type 0 where
  pub there : place < held
  pub read : IsRead records place history
  pub damaged : IfSome records (λ told. IsOfNone (town history) told place)

-- why no history was opened
abbrev pub IsStopped : OpenFault → KeeperState → List Entry → Type 0
IsStopped Failed k history = Unit {0}
IsStopped (Damaged place) k history = IsDamaged k.records k.held place history
IsStopped Empty k history = k.held ≡ 0
IsStopped Memory k history = Unit {0}

-- after an opening: nothing has changed, except that a fault of the keeper is counted
abbrev pub after_open : {T : Type 0} → Result T OpenFault → KeeperState → KeeperState
after_open (Ok opened) k = k
after_open (Err Failed) k = after_fault k
after_open (Err (Damaged place)) k = k
after_open (Err Empty) k = k
after_open (Err Memory) k = k

-- why a record was not read: it is the code of no entry that may come next, or memory ran out
abbrev pub IsUnread : Town → List ℕ → ℕ → OpenFault → Type 0
IsUnread t bytes place Failed = ⊥
IsUnread t bytes place (Damaged p) = (p ≡ place) × ((e : Entry) → IsNext t e → code_of e ≢ bytes)
IsUnread t bytes place Empty = ⊥
IsUnread t bytes place Memory = Unit {0}

-- why a record was not loaded
abbrev pub IsUnloaded : OpenFault → Type 0
IsUnloaded Failed = Unit {0}
IsUnloaded (Damaged place) = ⊥
IsUnloaded Empty = ⊥
IsUnloaded Memory = Unit {0}
