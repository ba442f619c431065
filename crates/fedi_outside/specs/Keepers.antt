-- What a keeper shows of itself, what its calls change, and what a crash leaves of its records.
use Rattle.std.specs.Prelude.{ℕ, ◌≡◌, ◌⊎◌, ◌+◌, ◌^◌, ◌<◌, ◌≤◌, Bool, true, false, List, [], ◌∷◌}
use Rattle.std.specs.Prelude.{◌++◌, length, slice_get, Option, None, Some, option_map, Result, Ok}
use Rattle.std.specs.Prelude.{Err, Vec}
use Rattle.fedi_outside.specs.Causes.{next_count}
use Rattle.fedi_outside.specs.declared.keepers.LoadFault.{LoadFault}
use Rattle.fedi_outside.specs.declared.keepers.LoadFault.TheVariants.{Failed, Memory}

-- a keeper, as its callers see it
pub record KeeperState : Type 0 where
  pub records : Option (List (List ℕ))  -- the records, if it reports them
  pub held : ℕ  -- how many records there are
  pub doubt : Option (List ℕ)  -- a record that a failed append may have left after the others
  pub spare : ℕ  -- any record shorter than this has room
  pub end : ℕ  -- where the records end
  pub faults : ℕ  -- how many calls failed; it saturates at 2^64 - 1

-- ---- room

-- after this end, a record of this length would exceed the limit of a keeper
abbrev pub IsFull : (ℕ → ℕ) → ℕ → ℕ → Type 0
IsFull room end length = 2 ^ 62 < end + room length

-- after this end there is room for a record of this length
abbrev pub HasRoom : (ℕ → ℕ) → ℕ → ℕ → Type 0
HasRoom room end length = end + room length ≤ 2 ^ 62

-- ---- what a call changes

-- after a call that failed: all is as before, and the fault is counted
abbrev pub after_fault : KeeperState → KeeperState
after_fault k = record k { faults = next_count k.faults }

-- after a load: all is as before, and a fault of the keeper is counted
abbrev pub after_load : {T : Type 0} → Result T LoadFault → KeeperState → KeeperState
after_load (Ok found) k = k
after_load (Err Memory) k = k
after_load (Err Failed) k = after_fault k

-- this was found at this index of the records
abbrev pub Finds : {A : Type 0} → List (List ℕ) → ℕ → Option (Vec ℕ A) → Type 0
Finds records place found = option_map (λ bytes. bytes.items) found ≡ slice_get records place

-- after a reserve: all is as before, except for the room that was made
pub record OnlyRoomChanged (before after : KeeperState) : Type 0 where
  pub records : after.records ≡ before.records
  pub held : after.held ≡ before.held
  pub doubt : after.doubt ≡ before.doubt
  pub end : after.end ≡ before.end
  pub faults : after.faults ≡ before.faults

-- the record was added, and nothing is in doubt
pub record HasAdded (growth : ℕ → ℕ) (added : List ℕ) (before after : KeeperState) : Type 0 where
  pub records : after.records ≡ option_map (λ records. records ++ added ∷ []) before.records
  pub held : after.held ≡ before.held + 1
  pub doubt : after.doubt ≡ None
  pub end : after.end ≡ before.end + growth (length added)
  pub faults : after.faults ≡ before.faults

-- a record was not added: all is as before, the fault is counted, and this record may be in doubt
pub record HasFailed (refused : List ℕ) (before after : KeeperState) : Type 0 where
  pub records : after.records ≡ before.records
  pub held : after.held ≡ before.held
  pub doubt : (after.doubt ≡ None) ⊎ (after.doubt ≡ Some refused)
  pub spare : after.spare ≡ before.spare
  pub end : after.end ≡ before.end
  pub faults : after.faults ≡ next_count before.faults

-- ---- crashes

-- the moment, and what a crash may leave of the records, if the keeper reports it
pub record Crashes : Type 1 where
  pub clock : ℕ  -- a moment, as a number that never decreases
  pub told : Bool
  -- a crash at some moment since that one might have left these records
  pub left_since : ℕ → List (List ℕ) → Type 0

-- what a crash may leave of these records, if one more may be there
abbrev pub MayLeave : List (List ℕ) → Option (List ℕ) → List (List ℕ) → Type 0
MayLeave records None left = left ≡ records
MayLeave records (Some more) left = (left ≡ records) ⊎ (left ≡ records ++ more ∷ [])

-- if crashes are reported, the records are reported too, and they have this property
abbrev pub IfTold : Bool → Option (List (List ℕ)) → (List (List ℕ) → Type 0) → Type 0
IfTold false records P = Unit {0}
IfTold true None P = ⊥
IfTold true (Some records) P = P records

-- during a call, only this is added to what a crash since an earlier moment might have left, and
-- nothing is removed
pub record Adds (before : ℕ) (past since : ℕ → List (List ℕ) → Type 0)
    (added : List (List ℕ) → Type 0) : Type 0 where
  pub nothing_else : (moment : ℕ) (left : List (List ℕ)) → moment ≤ before → since moment left
      → past moment left ⊎ added left
  pub keeps : (moment : ℕ) (left : List (List ℕ)) → moment ≤ before → past moment left
      → since moment left

-- the clock does not go back, and a crash during the call leaves the records, or the records and
-- the one in doubt
pub record PassesTime (records : Option (List (List ℕ))) (doubt : Option (List ℕ))
    (before after : Crashes) : Type 0 where
  pub clock : before.clock ≤ after.clock
  pub told : after.told ≡ before.told
  pub crash : IfTold before.told records
      (λ kept. Adds before.clock before.left_since after.left_since (MayLeave kept doubt))

-- a crash now leaves the records, or the records and the one in doubt
abbrev pub LeavesRecords : KeeperState → Crashes → Type 0
LeavesRecords k crashes =
    IfTold crashes.told k.records (λ kept. (left : List (List ℕ))
    → crashes.left_since crashes.clock left → MayLeave kept k.doubt left)
