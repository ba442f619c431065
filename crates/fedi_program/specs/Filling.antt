-- How a run moves the records of a store between a disk and a vault.
use Rattle.std.specs.Prelude.{◌≡◌, ◌≢◌, ◌⊎◌, ℕ, false, List, [], codes, length, max, IfSome}
use Rattle.std.specs.Prelude.{Option, Some, Err}
use Rattle.fedi_logged.specs.Endings.{Output, Writes}
use Rattle.fedi_objects.specs.declared.entry.Entry.{Entry}
use Rattle.fedi_opening.specs.Opening.{IsRead, IsStopped, after_open}
use Rattle.fedi_opening.specs.declared.fault.OpenFault.{OpenFault}
use Rattle.fedi_outside.specs.Causes.{next_count}
use Rattle.fedi_outside.specs.Keepers.{KeeperState}
use Rattle.fedi_outside.specs.Vaults.{VaultState}
use Rattle.fedi_outside.specs.declared.disks.Disk.{Ghosts as DiskGhosts}
use Rattle.fedi_outside.specs.declared.vaults.FillFault.{FillFault}
use Rattle.fedi_outside.specs.declared.vaults.FillFault.TheVariants as fills
use Rattle.fedi_startup.specs.Faults.{of_opening}
use Rattle.fedi_startup.specs.Stores.{IsSound, count_after, records_of}
use Rattle.fedi_startup.specs.Vaults.{AreRecordsOf, IsNotOpenedIn, IsRefusedIn}
use Rattle.fedi_startup.specs.declared.faults.StoreFault.{StoreFault}
use Rattle.fedi_program.specs.Endings.{Prints}
use Rattle.fedi_program.specs.Members.{Reports}
use Rattle.fedi_program.specs.Migrating.{IsEitherStore, IsNotRead, MovesTo, moved_line}
use Rattle.fedi_program.specs.Seen.{Medium, medium}
use Rattle.fedi_program.specs.Stores.{IsSame, ReportsStore}

-- ---- from a disk to a vault

-- how many faults the keeper has counted whose records were to be copied
abbrev pub count_source : FillFault → ℕ → ℕ
count_source fills.Exists n = n
count_source fills.Source n = next_count n
count_source fills.Failed n = n
count_source fills.Memory n = n

-- and the vault
abbrev pub count_filled : FillFault → ℕ → ℕ
count_filled fills.Exists n = n
count_filled fills.Source n = n
count_filled fills.Failed n = next_count n
count_filled fills.Memory n = n

-- The vault was not filled, for this reason: it keeps what it kept, if it reports that; it has
-- records already, the keeper that they come from failed, or the vault did, which each counts, or
-- memory ran out.
pub record IsUnfilled (fault : FillFault) (was is : ℕ) (before after : VaultState) : Type 0 where
  pub kept : IfSome after.kept (λ now. before.kept ≡ Some now)
  pub exists : fault ≡ fills.Exists → IfSome before.kept (λ records. records ≢ [])
  pub source : is ≡ count_source fault was
  pub cause : after.faults ≡ count_filled fault before.faults
  pub home : after.out ≡ false

-- The vault, which kept nothing, keeps the records of this history, if they are known, and if it
-- reports what it keeps.
pub record IsFilledBy {A : Type 0} (known : Option A) (history : List Entry)
    (before after : VaultState) : Type 0 where
  pub free : IfSome before.kept (λ records. records ≡ [])
  pub kept : IfSome after.kept (λ now. IfSome known (λ _. now ≡ records_of history))
  pub home : after.out ≡ false
  pub calm : after.faults ≡ before.faults

-- what is printed about a vault that was not filled, which is nothing if memory ran out, and the
-- status
abbrev pub ReportsUnfilled : FillFault → Output → Output → ℕ → Type 0
ReportsUnfilled fills.Exists first now status = Reports first now 9 (codes "exists\n") status
ReportsUnfilled fills.Source first now status = Reports first now 5 (codes "disk fault\n") status
ReportsUnfilled fills.Failed first now status = Reports first now 5 (codes "disk fault\n") status
ReportsUnfilled fills.Memory first now status = (status ≡ 12) × Writes first now []

-- How the records of this history are moved to a vault: it is not filled, which is reported, or it
-- is, and the line is printed.
abbrev pub FillsTo : {A : Type 0} → Option A → List Entry → ℕ → ℕ → VaultState → VaultState
    → Output → Output → ℕ → Type 0
FillsTo known history was is before after first now status =
    ((fault : FillFault) × IsUnfilled fault was is before after
    × ReportsUnfilled fault first now status)
    ⊎ ((is ≡ was) × IsFilledBy known history before after
    × Prints first now (moved_line (length history)) status)

-- How a run moves the records of the store of a disk to a vault. The disk is untouched. It is not
-- the store of a history, of this format or of the one before it, which is reported, and the vault
-- is not asked; or it is, and the records of that history are moved.
abbrev pub MigratesIn : Medium → Medium → VaultState → VaultState → Output → Output → ℕ → Type 0
MigratesIn old left before after first now status =
    IsSame old left
    × (((fault : StoreFault) × IsNotRead fault old.shown
    × (left.shown.faults ≡ count_after fault old.shown.faults) × (after ≡ before)
    × ReportsStore fault first now status)
    ⊎ ((history : List Entry) × IfSome old.shown.reads (IsEitherStore history)
    × FillsTo old.shown.reads history old.shown.faults left.shown.faults before after first now
    status))

-- the same over the records of a keeper
abbrev pub FillsFrom : KeeperState → KeeperState → VaultState → VaultState → Output → Output → ℕ
    → Type 0
FillsFrom was is before after first now status =
    ((fault : OpenFault) × (read : List Entry) × IsStopped fault was read
    × (is ≡ after_open {T = ℕ} (Err fault) was) × (after ≡ before)
    × ReportsStore (of_opening fault) first now status)
    ⊎ ((history : List Entry) × (was.held ≢ 0) × IsRead was.records was.held history
    × FillsTo was.records history was.faults is.faults before after first now status)

-- ---- from a vault to a disk

-- the vault has the records of this history, which is a store's, if it reports them
pub record IsKeptStore (history : List Entry) (kept : Option (List (List ℕ))) : Type 0 where
  pub some : history ≢ []
  pub sound : IsSound history
  pub stored : AreRecordsOf history kept

-- How a run moves the records of the store of a vault to a second disk. The vault is not the store
-- of a history, which is reported, and the second disk is not asked; or it is, and its keeper,
-- which has counted this many faults then, gives the records of that history. Whatever the status,
-- the vault keeps what it kept.
abbrev pub MigratesOut : {D : Type 0} → DiskGhosts D → VaultState → VaultState → D → D → Output
    → Output → ℕ → Type 0
MigratesOut disks old left before after first now status =
    ((fault : StoreFault) × IsRefusedIn fault old left × (after ≡ before)
    × ReportsStore fault first now status)
    ⊎ ((history : List Entry) × (count : ℕ) × IsKeptStore history old.kept
    × (left.kept ≡ old.kept) × (left.out ≡ false)
    × (left.faults ≡ max old.faults count)
    × MovesTo old.kept history old.faults count (medium disks before) (medium disks after) first now
    status)

-- the same over a keeper of these records, which had counted this many faults
abbrev pub MovesOut : {D : Type 0} → DiskGhosts D → Option (List (List ℕ)) → ℕ → KeeperState
    → D → D → Output → Output → ℕ → Type 0
MovesOut disks kept was is before after first now status =
    ((fault : StoreFault) × IsNotOpenedIn fault kept × (is.records ≡ kept)
    × (is.faults ≡ count_after fault was) × (after ≡ before) × ReportsStore fault first now status)
    ⊎ ((history : List Entry) × IsKeptStore history kept × (is.records ≡ kept)
    × MovesTo kept history was is.faults (medium disks before) (medium disks after) first now
    status)
