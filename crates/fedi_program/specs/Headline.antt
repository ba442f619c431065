-- What a run of the program promises, on one page. The other files of this folder, and those of the
-- crates below, say what its words mean.
use Rattle.std.specs.Global.{Vec}
use Rattle.std.specs.Prelude.{◌≡◌, ◌≢◌, ◌↔◌, ℕ, List, [], Option, Some, None, IfSome, IsTrue}
use Rattle.std.specs.Prelude.{true, false}
use Rattle.fedi_logged.specs.Endings.{Faults, Output, Scene, WritesUnlessFailed}
use Rattle.fedi_logged.specs.declared.connection.Connection.{Connection}
use Rattle.fedi_outside.specs.declared.clocks.Clock.{Ghosts as ClockGhosts}
use Rattle.fedi_outside.specs.declared.disks.Disk.{Ghosts as DiskGhosts}
use Rattle.fedi_outside.specs.declared.doors.Bench.{Bench}
use Rattle.fedi_outside.specs.declared.doors.Door.{Ghosts as DoorGhosts}
use Rattle.fedi_outside.specs.declared.entropies.Entropy.{Ghosts as EntropyGhosts}
use Rattle.fedi_outside.specs.declared.keepers.Keeper.{Ghosts as KeeperGhosts}
use Rattle.fedi_outside.specs.declared.links.Link.{Ghosts as LinkGhosts}
use Rattle.fedi_outside.specs.declared.sinks.Sink.{Ghosts as SinkGhosts}
use Rattle.fedi_outside.specs.declared.sources.Source.{Ghosts as SourceGhosts}
use Rattle.fedi_outside.specs.Vaults.{VaultState}
use Rattle.fedi_outside.specs.declared.vaults.Vault.{Ghosts as VaultGhosts}
use Rattle.fedi_selection.specs.Selections.{SelectionState}
use Rattle.fedi_selection.specs.declared.selections.Selection.{Ghosts as SelectionGhosts}
use Rattle.fedi_program.specs.Commands.{Task, Usage, Init, Inetd, Serve, AddActor, AddPeer, Deliver}
use Rattle.fedi_program.specs.Commands.{Export, Check, Migrate, Fill, Report, Demo, Play, InVault}
use Rattle.fedi_program.specs.Commands.{OnDisk}
use Rattle.fedi_program.specs.Commands.{Place, address_of}
use Rattle.fedi_program.specs.Complete.{CanBeFilled, DoorsAreCalm, IsCalm, IsComplete}
use Rattle.fedi_program.specs.Complete.{IsCompleteIn, Outside, outside_of}
use Rattle.fedi_program.specs.Demonstrating.{Demonstrates}
use Rattle.fedi_program.specs.Endings.{HasCauses, Prints}
use Rattle.fedi_program.specs.Filling.{MigratesIn, MigratesOut}
use Rattle.fedi_program.specs.Migrating.{Migrates}
use Rattle.fedi_program.specs.Playing.{PlaysScript}
use Rattle.fedi_program.specs.Reporting.{ReportsInVault, ReportsOnDisk}
use Rattle.fedi_program.specs.Runs.{asks_disk, asks_vault, fills_vault, is_status_at, lays_rows}
use Rattle.fedi_program.specs.Runs.{may_draw, opens_store}
use Rattle.fedi_program.specs.Seen as seen
use Rattle.fedi_program.specs.Seen.{Chance, Medium}
use Rattle.fedi_program.specs.Serving.{AreWaiting, ServesDoors}
use Rattle.fedi_program.specs.Stores.{IsKeptSafe}
use Rattle.fedi_program.specs.Usage.{usage_text}
use Rattle.fedi_program.specs.Vaults.{DoesIn, IsKeptIn}
use Rattle.fedi_program.specs.Working as working
use Rattle.fedi_program.specs.Working.{DoesOnDisk, Sight}

-- ---- what lies outside of a run

-- How it is seen: for each kind of thing, what the contract of its trait lets one see of a value.
pub record Kinds (S O D C E W L K V P N : Type 0) : Type 1 where
  pub sources : SourceGhosts S
  pub sinks : SinkGhosts O
  pub disks : DiskGhosts D
  pub clocks : ClockGhosts C
  pub entropies : EntropyGhosts E
  pub doors : DoorGhosts W L
  pub links : LinkGhosts K
  pub vaults : VaultGhosts V P
  pub keepers : KeeperGhosts P  -- what a vault hands out
  pub selections : SelectionGhosts N

-- these, together
abbrev pub kinds : {S O D C E W L K V P N : Type 0} → SourceGhosts S → SinkGhosts O → DiskGhosts D
    → ClockGhosts C → EntropyGhosts E → DoorGhosts W L → LinkGhosts K → VaultGhosts V P
    → KeeperGhosts P → SelectionGhosts N → Kinds S O D C E W L K V P N
kinds sources sinks disks clocks entropies doors links vaults keepers selections = record {
  sources = sources;
  sinks = sinks;
  disks = disks;
  clocks = clocks;
  entropies = entropies;
  doors = doors;
  links = links;
  vaults = vaults;
  keepers = keepers;
  selections = selections;
}

-- What there is: an input, an output and a clock; the disk of the store, and a second one that its
-- records may be moved to; what keys are drawn from; benches, each with a door that gives
-- connections and a link to other servers; a vault, which has the store in place of the disk if the
-- store is a table, or to which the records of a disk may be moved; and a selection, in which the
-- activities of a town may be laid.
pub record World (S O D C E W K V N : Type 0) : Type 0 where
  pub connection : Connection S O C
  pub disk : D
  pub second : D
  pub entropy : E
  pub benches : Vec (Bench W K)
  pub vault : V
  pub selection : N

-- these, together
abbrev pub world : {S O D C E W K V N : Type 0} → Connection S O C → D → D → E → Vec (Bench W K)
    → V → N → World S O D C E W K V N
world connection disk second entropy benches vault selection = record {
  connection = connection;
  disk = disk;
  second = second;
  entropy = entropy;
  benches = benches;
  vault = vault;
  selection = selection;
}

module _ {S O D C E W L K V P N : Type 0} (k : Kinds S O D C E W L K V P N) where
  -- the disk of this world, and what a crash may leave of it
  abbrev pub medium : World S O D C E W K V N → Medium
  medium w = seen.medium k.disks w.disk

  -- what its output was sent
  abbrev pub output : World S O D C E W K V N → Output
  output w = seen.output k.sinks w.connection.out

  -- the same, with what its input has yet to give
  abbrev pub scene : World S O D C E W K V N → Scene
  scene w = seen.scene k.sources k.sinks w.connection.input w.connection.out

  -- how many reads of its input and writes of its output failed
  abbrev pub faults : World S O D C E W K V N → Faults
  faults w = seen.faults k.sources k.sinks w.connection.input w.connection.out

  -- what keys are drawn from in it
  abbrev pub chance : World S O D C E W K V N → Chance
  chance w = seen.chance k.entropies w.entropy

  -- the moment that its clock tells
  abbrev pub time : World S O D C E W K V N → Option ℕ
  time w = k.clocks.told w.connection.clock

  -- all this, as a task over a store sees it
  abbrev pub sight : World S O D C E W K V N → Sight W K
  sight w = working.sight k.sources k.sinks k.clocks k.entropies w.connection w.entropy w.benches

  -- the vault of this world
  abbrev pub vault : World S O D C E W K V N → VaultState
  vault w = k.vaults.shown w.vault

  -- the selection of this world
  abbrev pub selection : World S O D C E W K V N → SelectionState
  selection w = k.selections.shown w.selection

  -- what calls may fail at
  abbrev pub outside : World S O D C E W K V N → Outside
  outside w = outside_of (k.disks.shown w.disk) (k.disks.shown w.second) (chance w) (faults w)

  -- ---- what a run does

  -- what a task does that is the same over a disk and over a vault
  abbrev pub DoesAt : Place → Task → World S O D C E W K V N → World S O D C E W K V N → ℕ → Type 0
  DoesAt OnDisk task a b s =
      DoesOnDisk k.disks k.links task a.disk b.disk (sight a) (sight b) s
  DoesAt InVault task a b s =
      DoesIn k.links k.keepers task (vault a) (vault b) (sight a) (sight b) s

  -- what `migrate` does with a store at this place
  abbrev pub MigratesAt : Place → World S O D C E W K V N → World S O D C E W K V N → ℕ → Type 0
  MigratesAt OnDisk a b s =
      Migrates k.disks (medium a) (medium b) a.second b.second (output a) (output b) s
  MigratesAt InVault a b s =
      MigratesOut k.disks (vault a) (vault b) a.second b.second (output a) (output b) s

  -- what `report` does with a store at this place
  abbrev pub ReportsAt : Place → List ℕ → List ℕ → World S O D C E W K V N
      → World S O D C E W K V N → ℕ → Type 0
  ReportsAt OnDisk name kind a b s =
      ReportsOnDisk a.disk b.disk (medium a) (medium b) name kind (selection a) (selection b)
      (output a) (output b) s
  ReportsAt InVault name kind a b s =
      ReportsInVault a.vault b.vault k.keepers.growth k.keepers.room (vault a) (vault b) name kind
      (selection a) (selection b) (output a) (output b) s

  -- What each task does that the arguments may ask for, between the world before (a) and the world
  -- after it (b), and with which status it ends (s).
  --
  -- `usage` prints the usage, completely unless a write failed.
  --
  -- `init` makes the store of this host, or reports the first reason not to. Whatever the result,
  -- the bytes of an existing store stay: reads give the same, and a crash at any moment of the run
  -- leaves nothing new.
  --
  -- `inetd` holds a conversation over the input, and over the history of the disk's file. Each
  -- request has the reply that the machine gives at the history so far, and each history that
  -- agrees on what the caller may know gives the same reply; or it has a reply about the disk,
  -- whose cause lies there. The entries that were kept are those that were acknowledged. At 0 the
  -- whole conversation was held. At every other status it was held as far as it went; or the store
  -- was not opened, for a reason that is reported, and nothing was read or written. A failure has
  -- its cause outside: the count of failed reads rose exactly at 6, and that of failed writes at 7.
  --
  -- `serve` serves each connection that a door gives, over one log that begins with the history of
  -- the disk's file: each request has the reply that the machine gives at the log so far. When a
  -- door is idle, its worker makes one step of delivery: it tries the first delivery that is due
  -- and that nobody has claimed. Each item that was added is that of one request or one attempt of
  -- one worker. A door that failed is the cause of 11, and at 0 each door has closed. However it
  -- ended, each connection has come back to the door that gave it, and each step that was made
  -- while no connection waited was reported. It prints nothing.
  --
  -- `add-actor` makes a member with the key that was drawn, or reports the first reason not to.
  -- Each reason has its cause: at 6 the draw failed, at 7 a write, and at 5 the disk.
  --
  -- `add-peer` makes a peer of the host, the key and the address, or reports the first reason not
  -- to. Each reason has its cause: at 7 a write failed, and at 5 the disk.
  --
  -- `deliver` tries the deliveries that are due at the one moment that is read, each once and in
  -- order, by the first bench's link: all of them at 0, and otherwise the first of them. What was
  -- asked of the link and what was heard show the result of each, which is kept and then reported
  -- by its line.
  --
  -- `export` prints a table of what the store holds, and `check` how much it holds, and the chain
  -- of its records. Neither touches the disk: reads give the same bytes, and a crash at any moment
  -- of the run leaves nothing new.
  --
  -- `migrate` makes the second disk the store of the history that the first one has, in this format
  -- or in the one before it, or reports the first reason not to. The first disk is untouched. The
  -- second one is no store until it has all records, whenever a crash comes; and if it had other
  -- bytes, it is untouched too. If one of the two is a table, the other is a disk: a vault gets the
  -- records of the disk at once, and a disk those of the vault. At 0 both then have the records of
  -- one history, if they report them, and the store that was moved has what it had.
  --
  -- `report` prints the activities by the member of this name and of this type: the names of the
  -- columns and those rows of `export`, in order, as the selection gives them, in which all
  -- activities are laid first, if it reports what is laid in it. Words that are no name or no type
  -- are refused (10), and nothing is asked. It does not touch the store. At 5 the disk, the vault
  -- or the selection failed, which is counted.
  --
  -- `demo` prints the one text of its number, which depends on nothing else: at 7 a prefix of it,
  -- since a write failed, and at 12 nothing.
  --
  -- `play` plays the script that is the input: servers in memory are set up, events happen to them,
  -- and each prints a line. Each event that happened is one of `fedi_worlds`, so each delivery that
  -- a server accepted comes from where it says, and what was delivered has arrived. At 0 the script
  -- was played to its end, and at 10 up to the first line that is refused, or not at all, since it
  -- is too long. At 6 a read failed and at 12 memory ran out, and nothing was printed.
  --
  -- If the store is a table, `init`, `inetd`, `add-actor`, `add-peer`, `deliver`, `export`, `check`
  -- and `report` do the same over the vault: over the history of the records that it keeps, if it
  -- reports them. `check` then prints no chain. Nothing is said of what a crash leaves of a vault.
  abbrev pub Does : Place → Task → World S O D C E W K V N → World S O D C E W K V N → ℕ → Type 0
  Does place Usage a b s = Prints (output a) (output b) usage_text s
  Does place (Init host) a b s = DoesAt place (Init host) a b s
  Does place Inetd a b s = DoesAt place Inetd a b s
  Does place (Serve address) a b s =
      ServesDoors k.doors k.links (time a) (medium a) (medium b) a.benches.items b.benches.items s
      × AreWaiting k.doors b.benches.items × (b.connection.out ≡ a.connection.out)
  Does place (AddActor name locked) a b s = DoesAt place (AddActor name locked) a b s
  Does place (AddPeer host key address relay) a b s =
      DoesAt place (AddPeer host key address relay) a b s
  Does place Deliver a b s = DoesAt place Deliver a b s
  Does place (Export table) a b s = DoesAt place (Export table) a b s
  Does place Check a b s = DoesAt place Check a b s
  Does place Migrate a b s = MigratesAt place a b s
  Does place Fill a b s =
      MigratesIn (medium a) (medium b) (vault a) (vault b) (output a) (output b) s
  Does place (Report name kind) a b s = ReportsAt place name kind a b s
  Does place (Demo number) a b s = Demonstrates number (output a) (output b) s
  Does place Play a b s =
      PlaysScript (scene a) (scene b) s × HasCauses (faults a) (faults b) s

  -- what becomes of a store at this place that is opened
  abbrev pub IsSafe : Place → World S O D C E W K V N → World S O D C E W K V N → Type 0
  IsSafe OnDisk a b = IsKeptSafe (medium a) (medium b)
  IsSafe InVault a b = IsKeptIn k.keepers (vault a) (vault b)

  -- the task is done over a store at this place, if no call failed and it is possible
  abbrev pub IsCompleteAt : Place → Task → World S O D C E W K V N → World S O D C E W K V N → ℕ
      → Type 0
  IsCompleteAt OnDisk task a b s = IsComplete task (time a) (outside a) (outside b) s
  IsCompleteAt InVault task a b s =
      IsCompleteIn k.keepers task (time a) (vault a) (vault b) (outside a) (outside b) s

-- What a run leaves as it was: only `inetd` and `play` read the input, only the tasks of a store
-- ask the disk, or the vault if the store is a table, only `migrate` asks the second disk, or the
-- vault if that is a table, only `report` lays rows in the selection, only `add-actor` draws a key,
-- and only `serve` asks doors and links, and `deliver` the first link.
pub record LeavesOthers {S O D C E W K V N : Type 0} (place : Place) (task : Option Task)
    (a b : World S O D C E W K V N) : Type 0 where
  pub input : task ≢ Some Inetd → task ≢ Some Play
      → b.connection.input ≡ a.connection.input
  pub clock : b.connection.clock ≡ a.connection.clock
  pub disk : asks_disk place task ≡ false → b.disk ≡ a.disk
  pub second : task ≢ Some Migrate → b.second ≡ a.second
  pub entropy : may_draw task ≡ false → b.entropy ≡ a.entropy
  pub benches : address_of task ≡ None → task ≢ Some Deliver → b.benches ≡ a.benches
  pub vault : asks_vault place task ≡ false → b.vault ≡ a.vault
  pub selection : lays_rows task ≡ false → b.selection ≡ a.selection

-- The headline: what a run promises that the arguments ask for this task, or that have asked for
-- none, over a store at this place, between the world before (a) and the world after it (b), and
-- with the status s.
pub record Runs {S O D C E W L K V P N : Type 0} (k : Kinds S O D C E W L K V P N) (place : Place)
    (task : Option Task) (a b : World S O D C E W K V N) (s : ℕ) : Type 0 where
  -- It does what the task is.
  pub does : IfSome task (λ t. Does k place t a b s)
  -- The status is one with which the task may end,
  pub statuses : IsTrue (is_status_at place task s)
  -- and 2 exactly if the arguments are not accepted; then the usage is printed, completely unless a
  -- write failed.
  pub accepted : (s ≡ 2) ↔ (task ≡ None)
  pub refused : s ≡ 2 → WritesUnlessFailed (output k a) (output k b) [] usage_text
  -- Whatever the task and the input, a store that is opened is returned with the records of a legal
  -- history: those that the opening found, and those of the entries that the run made. A crash at
  -- any moment of the run leaves the records from before the run, or those that the opening found,
  -- followed by the first of the new ones, none or more, and by at most one that was in doubt then.
  -- After the run a crash leaves the records of all of them, followed by at most the one in doubt.
  -- A store that is not opened is untouched, image by image. Of a vault this holds without crashes,
  -- if it reports what it keeps.
  pub safe : opens_store task ≡ true → IsSafe k place a b
  -- What does not concern the task is left as it was.
  pub others : LeavesOthers place task a b
  -- If no call failed, a task is done (0) unless memory ran out (12), over each store, and `init`
  -- over a disk or a vault that may become one, if the task breaks no rule and has room. The input
  -- of `inetd` may also have ended inside a request (8), and the script of `play` may have a line
  -- that is refused (10). A vault that is to be filled has nothing.
  pub complete : IfSome task (λ t.
      (address_of (Some t) ≢ None → DoorsAreCalm k.doors.faults a.benches.items b.benches.items)
      → (fills_vault (Some t) ≡ true → CanBeFilled (vault k a) (vault k b))
      → (lays_rows (Some t) ≡ true → IsCalm (selection k a).faults (selection k b).faults)
      → IsCompleteAt k place t a b s)
