-- Stores whose records are in a vault, and what becomes of a vault that is made, opened or closed as
-- a store.
use Rattle.std.specs.Prelude.{◌≡◌, ◌≢◌, ℕ, false, List, [], ◌∷◌, ◌++◌, length, max, option_map}
use Rattle.std.specs.Prelude.{IfSome, Option, None, Some}
use Rattle.fedi_core.specs.Machines.{IsNextCode}
use Rattle.fedi_log.specs.Keeping.{HoldsFrom, State, base_of}
use Rattle.fedi_log.specs.Log.{Log, given}
use Rattle.fedi_logged.specs.Marks.{MarksMayCome}
use Rattle.fedi_objects.specs.declared.entry.Entry.{Entry}
use Rattle.fedi_opening.specs.Opening.{IsDamaged}
use Rattle.fedi_outside.specs.Causes.{next_count}
use Rattle.fedi_outside.specs.Keepers.{IsFull, KeeperState}
use Rattle.fedi_outside.specs.Vaults.{IsHanded, VaultState, none_of}
use Rattle.fedi_outside.specs.declared.keepers.Keeper.{Ghosts}
use Rattle.fedi_startup.specs.Stores.{IsSound, count_after, records_of}
use Rattle.fedi_startup.specs.declared.faults.MakeFault.{MakeFault}
use Rattle.fedi_startup.specs.declared.faults.MakeFault.TheVariants as makes
use Rattle.fedi_startup.specs.declared.faults.StoreFault.{StoreFault}
use Rattle.fedi_startup.specs.declared.faults.StoreFault.TheVariants.{NotAStore, OldFormat}
use Rattle.fedi_startup.specs.declared.faults.StoreFault.TheVariants.{DamagedByte}
use Rattle.fedi_startup.specs.declared.faults.StoreFault.TheVariants.{DamagedRecord, Failed, Memory}

-- ---- opening

-- if these records are known, they are those of the history
abbrev pub AreRecordsOf : List Entry → Option (List (List ℕ)) → Type 0
AreRecordsOf history kept = IfSome kept (λ records. records ≡ records_of history)

-- The machine was opened over this vault: it has the history of the records that the vault keeps,
-- and nothing is in doubt.
pub record IsOpenedIn (vault : VaultState) (s : State) : Type 0 where
  pub some : s.history ≢ []
  pub sound : IsSound s.history
  pub stored : AreRecordsOf s.history vault.kept
  pub records : s.keeper.records ≡ vault.kept
  pub held : s.keeper.held ≡ length s.history
  pub doubt : s.keeper.doubt ≡ None
  pub faults : s.keeper.faults ≡ vault.faults

-- these are records, and the one at this index is the first that is not the code of an entry that
-- may occur there
abbrev pub HasBadRecordAt : ℕ → List (List ℕ) → Type 0
HasBadRecordAt place records =
    (history : List Entry) × IsDamaged (Some records) (length records) place history

-- why no machine was opened over a vault that keeps these records, if they are known
abbrev pub IsNotOpenedIn : StoreFault → Option (List (List ℕ)) → Type 0
IsNotOpenedIn NotAStore kept = IfSome kept (λ records. records ≡ [])
IsNotOpenedIn OldFormat kept = ⊥
IsNotOpenedIn (DamagedByte place) kept = ⊥
IsNotOpenedIn (DamagedRecord place) kept = IfSome kept (HasBadRecordAt place)
IsNotOpenedIn Failed kept = Unit {0}
IsNotOpenedIn Memory kept = Unit {0}

-- No machine was opened over the vault, for this reason. It keeps what it kept, no keeper is out, and
-- a fault of the vault or of its keeper is counted.
pub record IsRefusedIn (fault : StoreFault) (before after : VaultState) : Type 0 where
  pub why : IsNotOpenedIn fault before.kept
  pub kept : after.kept ≡ before.kept
  pub home : after.out ≡ false
  pub faults : after.faults ≡ count_after fault before.faults

-- ---- closing

-- the vault keeps what this machine has, and no keeper is out
pub record IsClosedIn (vault : VaultState) (s : State) : Type 0 where
  pub sound : IsSound s.history
  pub doubted : IfSome s.keeper.doubt (IsNextCode s.history)
  pub stored : AreRecordsOf s.history vault.kept
  pub kept : vault.kept ≡ s.keeper.records
  pub held : s.keeper.held ≡ length s.history
  pub home : vault.out ≡ false

-- A machine was opened over the vault, in the first of these states, and closed in the second, and
-- represents this log, which begins with the history of the opening. If the vault reports what it
-- keeps, this was the records of that history, and is now those of the last one. What a crash leaves
-- of a vault is not said.
pub record IsServedIn (growth room : ℕ → ℕ) (before after : VaultState) (opened closed : State)
    (log : Log) : Type 0 where
  pub opens : IsOpenedIn before opened
  pub closes : IsClosedIn after closed
  pub holds : HoldsFrom (base_of growth room opened) (given opened.history) closed log
  pub marks : MarksMayCome [] log
  pub faults : after.faults ≡ max before.faults closed.keeper.faults

-- ---- making

-- the vault kept nothing, and was made the store of this history
pub record IsMadeIn (history : List Entry) (before after : VaultState) : Type 0 where
  pub free : IfSome before.kept (λ records. records ≡ [])
  pub kept : after.kept ≡ option_map (λ _. records_of history) before.kept
  pub home : after.out ≡ false
  pub faults : after.faults ≡ before.faults

-- a keeper that a vault in this state hands out when it is made: it has no records
pub record IsNew {P : Type 0} (keepers : Ghosts P) (vault : VaultState) (keeper : P) : Type 0 where
  pub handed : IsHanded (none_of vault.kept) vault.faults (keepers.shown keeper)
  pub held : (keepers.shown keeper).held ≡ 0

-- why a vault in this state was not made a store with this first record: it keeps records, if they
-- are known; or it handed out a new keeper that has no room for this one
abbrev pub IsTakenBy : {P : Type 0} → Ghosts P → List ℕ → MakeFault → VaultState → Type 0
IsTakenBy keepers code makes.Exists vault = IfSome vault.kept (λ records. records ≢ [])
IsTakenBy keepers code makes.Full vault =
    (keeper : _) × IsNew keepers vault keeper
    × IsFull keepers.room (keepers.shown keeper).end (length code)
IsTakenBy keepers code makes.Failed vault = Unit {0}
IsTakenBy keepers code makes.Memory vault = Unit {0}

-- how many faults are counted after this one
abbrev pub count_made : MakeFault → ℕ → ℕ
count_made makes.Exists n = n
count_made makes.Full n = n
count_made makes.Failed n = next_count n
count_made makes.Memory n = n

-- The vault was not made a store with this first record, for this reason. It keeps what it kept, no
-- keeper is out, and a fault of the vault or of its keeper is counted.
pub record IsNotMadeIn {P : Type 0} (keepers : Ghosts P) (code : List ℕ) (fault : MakeFault)
    (before after : VaultState) : Type 0 where
  pub why : IsTakenBy keepers code fault before
  pub kept : after.kept ≡ before.kept
  pub home : after.out ≡ false
  pub faults : after.faults ≡ count_made fault before.faults

-- the first record was added to a keeper that had none, if its records are known
pub record HasBegun (code : List ℕ) (before after : KeeperState) : Type 0 where
  pub records : after.records ≡ option_map (λ records. records ++ code ∷ []) before.records
  pub faults : after.faults ≡ before.faults

-- it was not, for this reason
pub record IsNotBegun (room : ℕ → ℕ) (code : List ℕ) (fault : MakeFault)
    (before after : KeeperState) : Type 0 where
  pub free : fault ≢ makes.Exists
  pub full : fault ≡ makes.Full → IsFull room before.end (length code)
  pub records : after.records ≡ before.records
  pub faults : after.faults ≡ count_made fault before.faults
