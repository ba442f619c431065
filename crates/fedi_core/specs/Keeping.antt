-- What becomes of an entry that is to be kept, of the history, and of the keeper of its records.
use Rattle.std.specs.Prelude.{◌≡◌, ◌⊎◌, ℕ, Bool, false, true, List, [], ◌∷◌, ◌++◌, length}
use Rattle.std.specs.Prelude.{Option, None, Some, Result, Ok, Err, IfErr, IsTrue, OnErr, OnOk}
use Rattle.std.specs.List.{list_any}
use Rattle.fedi_model.specs.Reading.{is_self}
use Rattle.fedi_entry.specs.Codes.{code_of}
use Rattle.fedi_entry.specs.Limits.{IsAttemptWithin}
use Rattle.fedi_laws.specs.Statements.{is_peer_of}
use Rattle.fedi_objects.specs.declared.activity.Activity.{Activity}
use Rattle.fedi_objects.specs.declared.entry.Entry.{Entry}
use Rattle.fedi_objects.specs.declared.entry.Entry.TheVariants.{PeerSet, Local, Remote}
use Rattle.fedi_outside.specs.Causes.{next_count}
use Rattle.fedi_opening.specs.Opening.{IsNext}
use Rattle.fedi_outside.specs.Keepers.{KeeperState, HasAdded, HasRoom, IsFull, OnlyRoomChanged}
use Rattle.fedi_outside.specs.declared.keepers.Keeper.{Ghosts}
use Rattle.fedi_town.specs.declared.caller.Caller.{Caller}
use Rattle.fedi_town.specs.Activities.{local_act, remote_act}
use Rattle.fedi_town.specs.Agreement.{Agree}
use Rattle.fedi_town.specs.Deeds.{changes_nothing, deed_of, is_follow}
use Rattle.fedi_town.specs.Histories.{is_known, town}
use Rattle.fedi_town.specs.Legal.{IsLegal, is_admissible, is_caller}
use Rattle.fedi_town.specs.Seeing.{sees}
use Rattle.fedi_town.specs.Towns.{Town, has_name, id_of}
use Rattle.fedi_core.specs.Crashing.{PassesTimeUnkept, PassesTimeWith}
use Rattle.fedi_core.specs.Machines.{KeepsClaims, Machine}
use Rattle.fedi_core.specs.declared.keeping.KeepFault.{KeepFault}
use Rattle.fedi_core.specs.declared.keeping.KeepFault.TheVariants.{Full, Failed, Memory}

-- ---- which entries may be kept

-- the entry may come next, and the outcome of an attempt, if it is one, keeps its limits
pub record MayAdd (t : Town) (e : Entry) : Type 0 where
  pub admissible : IsTrue (is_admissible t e)
  pub attempt : IsAttemptWithin e

-- ---- records

-- what may be in doubt after a fault: what was before, nothing, or the new record
abbrev pub MayDoubt : List ℕ → Option (List ℕ) → Option (List ℕ) → Type 0
MayDoubt code before after = (after ≡ before) ⊎ ((after ≡ None) ⊎ (after ≡ Some code))

-- the keeper failed once, and has the same records as before
pub record HasFailedOnce (code : List ℕ) (before after : KeeperState) : Type 0 where
  pub records : after.records ≡ before.records
  pub held : after.held ≡ before.held
  pub doubt : MayDoubt code before.doubt after.doubt
  pub end : after.end ≡ before.end
  pub faults : after.faults ≡ next_count before.faults

-- why a record with this code was not kept, and what became of the keeper
abbrev pub Refuses : (ℕ → ℕ) → List ℕ → KeepFault → KeeperState → KeeperState → Type 0
Refuses room code Full before after =
    IsFull room before.end (length code) × OnlyRoomChanged before after
Refuses room code Failed before after =
    HasRoom room before.end (length code) × HasFailedOnce code before after
Refuses room code Memory before after = OnlyRoomChanged before after

-- what a call that is to keep a record with this code does to a keeper
pub record Stores {P : Type 0} (k : Ghosts P) (before after : P) (code : List ℕ)
    (result : Result (Unit {0}) KeepFault) : Type 0 where
  -- without an error there was room for the record
  pub fits : OnOk result (HasRoom k.room (k.shown before).end (length code))
  -- it is then the last one, and nothing is in doubt
  pub added : OnOk result (HasAdded k.growth code (k.shown before) (k.shown after))
  -- an error has its cause, and the keeper has the same records as before
  pub refused : IfErr result
      (λ fault. Refuses k.room code fault (k.shown before) (k.shown after))
  -- a crash during the call leaves the records, followed by the one in doubt or by this one, if by
  -- any
  pub time : OnOk result (PassesTimeWith (k.shown before).records (k.shown before).doubt code
      (k.crashes before) (k.crashes after))
  -- the same after an error, but this one may be there only if the keeper failed
  pub time_refused : IfErr result (λ fault. PassesTimeUnkept fault (k.shown before).records
      (k.shown before).doubt code (k.crashes before) (k.crashes after))

-- ---- entries

-- the entry was kept: it is the last one of the history, and its code is the last one of the
-- records
pub record IsKept (growth room : ℕ → ℕ) (h : List Entry) (e : Entry) (before after : KeeperState)
    (h' : List Entry) : Type 0 where
  pub history : h' ≡ h ++ e ∷ []
  pub fits : HasRoom room before.end (length (code_of e))
  pub keeper : HasAdded growth (code_of e) before after

-- what a call that is to keep an entry does to a machine
pub record Keeps {P : Type 0} (k : Ghosts P) (before after : Machine P) (e : Entry)
    (result : Result (Unit {0}) KeepFault) : Type 0 where
  -- without an error the entry is the last one of the history, and its code the last record
  pub kept : OnOk result (IsKept k.growth k.room before.history e (k.shown before.keeper)
      (k.shown after.keeper) after.history)
  -- an error has its cause, and the keeper has the same records as before
  pub refused : IfErr result
      (λ fault. Refuses k.room (code_of e) fault (k.shown before.keeper) (k.shown after.keeper))
  -- the record that may then be in doubt can be read at its position
  pub next : IfErr result (λ fault. fault ≡ Failed → IsNext (town before.history) e)
  -- and the history is unchanged
  pub same : OnErr result (after.history ≡ before.history)
  -- without an error what was claimed stays claimed, except for a delivery that the entry records
  -- an attempt of
  pub claims : OnOk result (KeepsClaims (town before.history).acts e before.rows after.rows)
  -- the history is legal
  pub legal : IsLegal after.history
  -- a crash during the call leaves the keeper's records, followed by the one in doubt or by that of
  -- the entry, if by any
  pub time : OnOk result (PassesTimeWith (k.shown before.keeper).records
      (k.shown before.keeper).doubt (code_of e) (k.crashes before.keeper) (k.crashes after.keeper))
  -- the same after an error, but that of the entry may be there only if the keeper failed
  pub time_refused : IfErr result (λ fault. PassesTimeUnkept fault (k.shown before.keeper).records
      (k.shown before.keeper).doubt (code_of e) (k.crashes before.keeper)
      (k.crashes after.keeper))

-- a result, by what its error says of the keeper
abbrev pub fault_by : {F : Type 0} → (F → KeepFault) → Result (Unit {0}) F
    → Result (Unit {0}) KeepFault
fault_by of (Ok done) = Ok done
fault_by of (Err fault) = Err (of fault)

-- A post that was added to the history and changes nothing earlier (a Create, a Follow, a Like, an
-- Announce, or a type without side effects) changed nothing for a caller that does not see it.
abbrev pub HidesPosts : List Entry → List Entry → Type 0
HidesPosts h h' =
    (host name : List ℕ) (repeat : Option (List ℕ × List ℕ)) (a : Activity) (moment : ℕ)
    (c : Caller)
    → (town h).host ≡ Some host → h' ≡ h ++ Local name repeat a moment ∷ []
    → changes_nothing (deed_of a.kind) ≡ true
    → sees (town h) c (local_act (town h) host name repeat a moment) ≡ false
    → Agree (town h') (town h) c

-- A delivery of a new id that was added to the history, changes nothing earlier and is not a Follow
-- changed nothing for a caller that does not see it.
abbrev pub HidesDeliveries : List Entry → List Entry → Type 0
HidesDeliveries h h' =
    (peer inbox owner author id : List ℕ) (a : Activity) (moment : ℕ) (c : Caller)
    → h' ≡ h ++ Remote peer inbox a moment ∷ [] → id_of (town h) inbox ≡ Some owner
    → a.actor ≡ Some author → a.id ≡ Some id
    → is_known (town h) id ≡ false → changes_nothing (deed_of a.kind) ≡ true
    → is_follow (deed_of a.kind) ≡ false
    → sees (town h) c (remote_act (town h) owner author a moment) ≡ false
    → Agree (town h') (town h) c

-- A delivery of a known id, which only adds an inbox, changed nothing for any caller except that
-- inbox's owner.
abbrev pub TellsOwners : List Entry → List Entry → Type 0
TellsOwners h h' =
    (host peer inbox author id : List ℕ) (a : Activity) (moment : ℕ) (c : Caller)
    → h' ≡ h ++ Remote peer inbox a moment ∷ [] → (town h).host ≡ Some host
    → list_any (has_name inbox) (town h).actors ≡ true
    → a.actor ≡ Some author → a.id ≡ Some id → is_known (town h) id ≡ true
    → is_caller (town h) c ≡ true → is_self c inbox ≡ false
    → Agree (town h') (town h) c

-- A peer that was added changed nothing for any caller except that peer.
abbrev pub TellsPeers : List Entry → List Entry → Type 0
TellsPeers h h' =
    (host key address : List ℕ) (relay : Bool) (moment : ℕ) (c : Caller)
    → h' ≡ h ++ PeerSet host key address relay moment ∷ []
    → is_peer_of host c ≡ false → Agree (town h') (town h) c
