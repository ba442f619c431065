-- When a run does what it is asked: no call fails, no rule is broken, and the journal has room.
use Rattle.std.specs.Prelude.{◌≡◌, ◌≢◌, ◌⊎◌, ◌<◌, ℕ, ◌+◌, true, List, [], ◌∷◌, length}
use Rattle.std.specs.Prelude.{slice_index_or, Option, None, Some}
use Rattle.fedi_address.specs.Hosts.{IsHost}
use Rattle.fedi_address.specs.Names.{is_name}
use Rattle.fedi_entry.specs.Codes.{code_of}
use Rattle.fedi_journal.specs.Chains.{chained}
use Rattle.fedi_journal.specs.Hiding.{IsTooLong, IsVisible}
use Rattle.fedi_journal.specs.Making.{IsOther}
use Rattle.fedi_mac.specs.Keys.{key_of}
use Rattle.fedi_objects.specs.declared.entry.Came.{Came}
use Rattle.fedi_objects.specs.declared.entry.Entry.{Entry}
use Rattle.fedi_objects.specs.declared.entry.Entry.TheVariants.{Hosted, Tried}
use Rattle.fedi_outside.specs.Causes.{Rose}
use Rattle.fedi_outside.specs.Disks.{DiskState}
use Rattle.fedi_outside.specs.Keepers.{HasRoom}
use Rattle.fedi_outside.specs.declared.keepers.Keeper.{Ghosts as KeeperGhosts}
use Rattle.fedi_outside.specs.declared.doors.Bench.{Bench}
use Rattle.fedi_queue.specs.Due.{due_in}
use Rattle.fedi_outside.specs.Vaults.{IsHanded, VaultState}
use Rattle.fedi_startup.specs.Stores.{IsSound, IsStoreOf, end_of, records_of}
use Rattle.fedi_startup.specs.Surviving.{growth, room}
use Rattle.fedi_startup.specs.Vaults.{IsNew}
use Rattle.fedi_logged.specs.Conversations.{IsNow}
use Rattle.fedi_logged.specs.Endings.{Faults}
use Rattle.fedi_town.specs.Histories.{town}
use Rattle.fedi_town.specs.Legal.{broken_command}
use Rattle.fedi_town.specs.Queues.{Delivery}
use Rattle.fedi_program.specs.Commands.{Task, Usage, Init, Inetd, Serve, AddActor, AddPeer, Deliver}
use Rattle.fedi_program.specs.Commands.{Export, Check, Migrate, Fill, Report, Demo, Play}
use Rattle.fedi_program.specs.Members.{Draws, member_entry}
use Rattle.fedi_program.specs.Migrating.{IsEitherStore}
use Rattle.fedi_program.specs.Peers.{peer_entry}
use Rattle.fedi_program.specs.Reporting.{is_kind}
use Rattle.fedi_program.specs.Seen.{Chance}

-- ---- no call fails

-- the count of faults did not rise, and is not at its limit
abbrev pub IsCalm : ℕ → ℕ → Type 0
IsCalm before now = Rose before now → ⊥

-- what a run may ask: the two disks, the source of keys, and the input and the output, with how many
-- of their calls failed
pub record Outside : Type 0 where
  pub disk : DiskState
  pub second : DiskState
  pub chance : Chance
  pub stream : Faults

-- these, together
abbrev pub outside_of : DiskState → DiskState → Chance → Faults → Outside
outside_of disk second chance stream =
    record { disk = disk; second = second; chance = chance; stream = stream }

-- no call of these failed
pub record AllCalm (before now : Outside) : Type 0 where
  pub disk : IsCalm before.disk.faults now.disk.faults
  pub second : IsCalm before.second.faults now.second.faults
  pub draws : IsCalm before.chance.faults now.chance.faults
  pub reads : IsCalm before.stream.reads now.stream.reads
  pub writes : IsCalm before.stream.writes now.stream.writes

-- no door failed, by this count of its failures
abbrev pub DoorsAreCalm : {W K : Type 0} → (W → ℕ) → List (Bench W K) → List (Bench W K) → Type 0
DoorsAreCalm {W} {K} faults before now =
    (k : ℕ) (b : Bench W K) → k < length before
    → IsCalm (faults (slice_index_or before k b).door) (faults (slice_index_or now k b).door)

-- ---- no rule is broken, and there is room

-- reads of the disk give the store of this history
abbrev pub HasStore : DiskState → List Entry → Type 0
HasStore disk history = (bytes : List ℕ) × (disk.reads ≡ Some bytes) × IsStoreOf history bytes

-- or of some history
abbrev pub IsStore : DiskState → Type 0
IsStore disk = (history : List Entry) × HasStore disk history

-- reads of the disk give bytes that may be made a store
abbrev pub IsFree : DiskState → Type 0
IsFree disk = (bytes : List ℕ) × (disk.reads ≡ Some bytes) × (IsOther chained bytes → ⊥)

-- reads of the disk give the store of this history, in this format or in the one before it
abbrev pub HasEitherStore : DiskState → List Entry → Type 0
HasEitherStore disk history =
    (bytes : List ℕ) × (disk.reads ≡ Some bytes) × IsEitherStore history bytes

-- reads of the disk give bytes that may be replaced by the records of a store
abbrev pub MayBeHidden : DiskState → Type 0
MayBeHidden disk = (bytes : List ℕ) × (disk.reads ≡ Some bytes) × (IsVisible bytes → ⊥)

-- the entry breaks no rule of commands after this history, and there is room for its record
abbrev pub CanBeKept : List Entry → Entry → Type 0
CanBeKept history e =
    (broken_command (town history) e ≡ None) × HasRoom room (end_of history) (length (code_of e))

-- after this end there is room for the records of attempts of these deliveries at this moment, one
-- for each, whatever its result
abbrev pub HasRoomForEach : (growth room : ℕ → ℕ) → ℕ → ℕ → List Delivery → Type 0
HasRoomForEach growth room moment end [] = Unit {0}
HasRoomForEach growth room moment end (d ∷ due) =
    (id : List ℕ) (came : Came) → d.activity ≡ Some id
    → HasRoom room end (length (code_of (Tried id d.recipient came moment)))
    × HasRoomForEach growth room moment
    (end + growth (length (code_of (Tried id d.recipient came moment)))) due

-- What the task asks for is possible: the disk is a store, or free to become one; what is to be
-- added to the store, or moved to the second disk, breaks no rule, whichever key was drawn and
-- whatever the moment was; and there is room for it.
abbrev pub IsPossible : Task → Option ℕ → Outside → Outside → Type 0
IsPossible Usage told before now = Unit {0}
IsPossible (Init host) told before now = IsHost host × IsFree before.disk
IsPossible Inetd told before now = IsStore before.disk
IsPossible (Serve address) told before now = IsStore before.disk
IsPossible (AddActor name locked) told before now =
    (history : List Entry) × HasStore before.disk history × (is_name name ≡ true)
    × ((key : List ℕ) (moment : ℕ) → Draws before.chance now.chance key → IsNow told moment
    → CanBeKept history (member_entry name key locked moment))
IsPossible (AddPeer host key address relay) told before now =
    (history : List Entry) × HasStore before.disk history × IsHost host
    × (secret : List ℕ) × (key_of key ≡ Some secret)
    × ((moment : ℕ) → IsNow told moment
    → CanBeKept history (peer_entry host secret address relay moment))
IsPossible Deliver told before now =
    (history : List Entry) × HasStore before.disk history
    × ((moment : ℕ) → IsNow told moment
    → HasRoomForEach growth room moment (end_of history) (due_in (town history) moment))
IsPossible (Export table) told before now = IsStore before.disk
IsPossible Check told before now = IsStore before.disk
IsPossible Migrate told before now =
    MayBeHidden before.second
    × ((history : List Entry) × HasEitherStore before.disk history
    × (IsTooLong (records_of history) → ⊥))
IsPossible Fill told before now = (history : List Entry) × HasEitherStore before.disk history
IsPossible (Report name kind) told before now =
    IsStore before.disk × (is_name name ≡ true) × (is_kind kind ≡ true)
IsPossible (Demo number) told before now = Unit {0}
IsPossible Play told before now = Unit {0}

-- ---- it is done

-- it is done, or memory ran out, or the one connection ended inside a request, or the script has a
-- line that is refused
abbrev pub IsDone : Task → ℕ → Type 0
IsDone task status =
    (status ≡ 0) ⊎ ((status ≡ 12)
    ⊎ (((task ≡ Inetd) × (status ≡ 8)) ⊎ ((task ≡ Play) × (status ≡ 10))))

-- a task that is possible is done, if no call failed
abbrev pub IsComplete : Task → Option ℕ → Outside → Outside → ℕ → Type 0
IsComplete task told before now status =
    AllCalm before now → IsPossible task told before now → IsDone task status

-- ---- over a vault

-- the vault reports that it keeps the records of this history, which is a store's
pub record HasStoreIn (vault : VaultState) (history : List Entry) : Type 0 where
  pub kept : vault.kept ≡ Some (records_of history)
  pub some : history ≢ []
  pub sound : IsSound history

-- or of some history
abbrev pub IsStoreIn : VaultState → Type 0
IsStoreIn vault = (history : List Entry) × HasStoreIn vault history

-- the entry breaks no rule of commands after this history, and a keeper that the vault hands out has
-- room for its record
abbrev pub CanBeKeptIn : {P : Type 0} → KeeperGhosts P → VaultState → List Entry → Entry → Type 0
CanBeKeptIn {P} keepers vault history e =
    (broken_command (town history) e ≡ None)
    × ((keeper : P) → IsHanded vault.kept vault.faults (keepers.shown keeper)
    → HasRoom keepers.room (keepers.shown keeper).end (length (code_of e)))

-- the vault reports that it keeps nothing, and no call of it failed
abbrev pub CanBeFilled : VaultState → VaultState → Type 0
CanBeFilled vault later = (vault.kept ≡ Some []) × IsCalm vault.faults later.faults

-- the same as of a disk; the second disk is the one that records may be moved to
abbrev pub IsPossibleIn : {P : Type 0} → KeeperGhosts P → Task → Option ℕ → VaultState → DiskState
    → Chance → Chance → Type 0
IsPossibleIn keepers Usage told vault second chance left = Unit {0}
IsPossibleIn keepers (Init host) told vault second chance left =
    IsHost host × (vault.kept ≡ Some [])
    × ((keeper : _) (moment : ℕ) → IsNew keepers vault keeper → IsNow told moment
    → HasRoom keepers.room (keepers.shown keeper).end (length (code_of (Hosted host moment))))
IsPossibleIn keepers Inetd told vault second chance left = IsStoreIn vault
IsPossibleIn keepers (Serve address) told vault second chance left = ⊥
IsPossibleIn keepers (AddActor name locked) told vault second chance left =
    (history : List Entry) × HasStoreIn vault history × (is_name name ≡ true)
    × ((key : List ℕ) (moment : ℕ) → Draws chance left key → IsNow told moment
    → CanBeKeptIn keepers vault history (member_entry name key locked moment))
IsPossibleIn keepers (AddPeer host key address relay) told vault second chance left =
    (history : List Entry) × HasStoreIn vault history × IsHost host
    × (secret : List ℕ) × (key_of key ≡ Some secret)
    × ((moment : ℕ) → IsNow told moment
    → CanBeKeptIn keepers vault history (peer_entry host secret address relay moment))
IsPossibleIn keepers Deliver told vault second chance left =
    (history : List Entry) × HasStoreIn vault history
    × ((moment : ℕ) (keeper : _) → IsNow told moment
    → IsHanded vault.kept vault.faults (keepers.shown keeper)
    → HasRoomForEach keepers.growth keepers.room moment (keepers.shown keeper).end
    (due_in (town history) moment))
IsPossibleIn keepers (Export table) told vault second chance left = IsStoreIn vault
IsPossibleIn keepers Check told vault second chance left = IsStoreIn vault
IsPossibleIn keepers Migrate told vault second chance left =
    MayBeHidden second
    × ((history : List Entry) × HasStoreIn vault history
    × (IsTooLong (records_of history) → ⊥))
IsPossibleIn keepers Fill told vault second chance left = ⊥
IsPossibleIn keepers (Report name kind) told vault second chance left =
    IsStoreIn vault × (is_name name ≡ true) × (is_kind kind ≡ true)
IsPossibleIn keepers (Demo number) told vault second chance left = Unit {0}
IsPossibleIn keepers Play told vault second chance left = Unit {0}

-- a task that is possible is done, if no call failed
abbrev pub IsCompleteIn : {P : Type 0} → KeeperGhosts P → Task → Option ℕ
    → (vault later : VaultState) → (before now : Outside) → ℕ → Type 0
IsCompleteIn keepers task told vault later before now status =
    IsCalm vault.faults later.faults → AllCalm before now
    → IsPossibleIn keepers task told vault before.second before.chance now.chance
    → IsDone task status
