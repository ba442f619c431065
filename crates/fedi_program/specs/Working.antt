-- What a task does with a store once it was opened, wherever the store keeps its records.
use Rattle.std.specs.Prelude.{◌≡◌, ◌≢◌, ◌⊎◌, ℕ, Bool, true, false, List, [], ◌∷◌, Option, Some}
use Rattle.std.specs.Prelude.{None}
use Rattle.std.specs.Global.{Vec}
use Rattle.fedi_log.specs.Keeping.{State}
use Rattle.fedi_log.specs.Log.{Log, given}
use Rattle.fedi_logged.specs.Endings.{Faults, Output, Scene, Writes, faults_of, scene_of}
use Rattle.fedi_logged.specs.Turning.{setting_by}
use Rattle.fedi_logged.specs.declared.connection.Connection.{Connection}
use Rattle.fedi_outside.specs.declared.clocks.Clock.{Ghosts as ClockGhosts}
use Rattle.fedi_outside.specs.declared.disks.Disk.{Ghosts as DiskGhosts}
use Rattle.fedi_outside.specs.declared.doors.Bench.{Bench}
use Rattle.fedi_outside.specs.declared.entropies.Entropy.{Ghosts as EntropyGhosts}
use Rattle.fedi_outside.specs.declared.links.Link.{Ghosts as LinkGhosts}
use Rattle.fedi_outside.specs.declared.sinks.Sink.{Ghosts as SinkGhosts}
use Rattle.fedi_outside.specs.declared.sources.Source.{Ghosts as SourceGhosts}
use Rattle.fedi_report.specs.Reports.{check_text}
use Rattle.fedi_startup.specs.declared.faults.StoreFault.{StoreFault}
use Rattle.fedi_town.specs.Histories.{town}
use Rattle.fedi_program.specs.Commands.{Task, Usage, Init, Inetd, Serve, AddActor, AddPeer, Deliver}
use Rattle.fedi_program.specs.Commands.{Export, Check, Migrate, Fill, Report, Demo, Play}
use Rattle.fedi_program.specs.Commands.{address_of}
use Rattle.fedi_program.specs.Delivering.{DeliversBy, TriesDue}
use Rattle.fedi_program.specs.Endings.{HasCauses, HoldsSession, Prints}
use Rattle.fedi_program.specs.Members.{MakesMember}
use Rattle.fedi_program.specs.Peers.{MakesPeer}
use Rattle.fedi_program.specs.Runs.{may_draw}
use Rattle.fedi_program.specs.Seen as seen
use Rattle.fedi_program.specs.Seen.{Chance, medium, tells}
use Rattle.fedi_program.specs.Stores.{AddsMember, AddsPeer, ChecksStore, ExportsStore, KeepsStore}
use Rattle.fedi_program.specs.Stores.{MakesStore, PrintsTable, ReportsStore, ServesStore}
use Rattle.fedi_program.specs.Stores.{TalksOverStore, status_by, table_text}

-- ---- what is seen of the outside

-- What a task over a store sees of the outside, besides the store: the moment that the clock tells,
-- the input and how many of its reads failed, the output, what keys are drawn from, and the
-- benches.
pub record Sight (W K : Type 0) : Type 0 where
  pub time : Option ℕ
  pub input : Option (List ℕ)
  pub reads : ℕ
  pub output : Output
  pub chance : Chance
  pub benches : List (Bench W K)

-- these, of values of these kinds
abbrev pub sight : {S O C E W K : Type 0} → SourceGhosts S → SinkGhosts O → ClockGhosts C
    → EntropyGhosts E → Connection S O C → E → Vec (Bench W K) → Sight W K
sight sources sinks clocks entropies connection entropy benches = record {
  time = clocks.told connection.clock;
  input = sources.left connection.input;
  reads = sources.read_faults connection.input;
  output = seen.output sinks connection.out;
  chance = seen.chance entropies entropy;
  benches = benches.items;
}

-- the input and the output
abbrev pub scene_in : {W K : Type 0} → Sight W K → Scene
scene_in a = scene_of a.input a.output

-- how many of their calls failed
abbrev pub faults_in : {W K : Type 0} → Sight W K → Faults
faults_in a = faults_of a.reads a.output.faults

-- only the output was asked
pub record IsUnasked {W K : Type 0} (a b : Sight W K) : Type 0 where
  pub input : b.input ≡ a.input
  pub reads : b.reads ≡ a.reads
  pub chance : b.chance ≡ a.chance
  pub benches : b.benches ≡ a.benches

-- What a task leaves as it was, besides the store: only `inetd` reads the input, only `add-actor`
-- draws a key, and only `serve` asks doors and links, and `deliver` the first link.
pub record LeavesRest {S O C E W K : Type 0} (task : Option Task) (a b : Connection S O C)
    (was is : E) (first last : Vec (Bench W K)) : Type 0 where
  pub input : task ≢ Some Inetd → b.input ≡ a.input
  pub clock : b.clock ≡ a.clock
  pub entropy : may_draw task ≡ false → is ≡ was
  pub benches : address_of task ≡ None → task ≢ Some Deliver → last ≡ first

-- ---- over a store that was opened

-- what is due was tried by the link of the first of these benches: only this link was asked, and
-- everything else of the benches stays
abbrev pub TriesBy : {W K : Type 0} → LinkGhosts K → (growth room : ℕ → ℕ) → Option ℕ → State
    → State → (benches now : List (Bench W K)) → Output → Output → ℕ → Type 0
TriesBy links growth room told opened closed [] now first out status = ⊥
TriesBy links growth room told opened closed (b ∷ benches) now first out status =
    (link : _) × (now ≡ record b { link = link } ∷ benches)
    × TriesDue growth room told opened closed (tells links b.link) (tells links link) first out
    status

-- how much this history holds is printed, unless there is no memory for the line (12) or a write
-- failed (7)
abbrev pub PrintsLine : Output → Output → List ℕ → ℕ → Type 0
PrintsLine first now line status =
    Prints first now line status ⊎ ((status ≡ 12) × Writes first now [])

-- What each of these tasks does over a machine that was opened in the first of these states and was
-- then in the second, and represents this log. Records are kept by a keeper with this growth and
-- this room.
abbrev pub Works : {W K : Type 0} → LinkGhosts K → (growth room : ℕ → ℕ) → Task → State → State
    → Log → Sight W K → Sight W K → ℕ → Type 0
Works links growth room Usage opened closed log a b s = ⊥
Works links growth room (Init host) opened closed log a b s = ⊥
Works links growth room Inetd opened closed log a b s =
    HoldsSession (setting_by growth room a.time None opened) opened log (scene_in a) (scene_in b) s
    × HasCauses (faults_in a) (faults_in b) s
Works links growth room (Serve address) opened closed log a b s = ⊥
Works links growth room (AddActor name locked) opened closed log a b s =
    MakesMember growth room a.time a.chance b.chance opened closed a.output b.output name locked s
Works links growth room (AddPeer host key address relay) opened closed log a b s =
    MakesPeer growth room a.time opened closed a.output b.output host key address relay s
Works links growth room Deliver opened closed log a b s =
    TriesBy links growth room a.time opened closed a.benches b.benches a.output b.output s
Works links growth room (Export table) opened closed log a b s =
    (closed ≡ opened) × (log ≡ given opened.history)
    × PrintsTable a.output b.output (table_text table (town opened.history)) s
Works links growth room Check opened closed log a b s =
    (closed ≡ opened) × (log ≡ given opened.history)
    × PrintsLine a.output b.output (check_text opened.history) s
Works links growth room Migrate opened closed log a b s = ⊥
Works links growth room Fill opened closed log a b s = ⊥
Works links growth room (Report name kind) opened closed log a b s = ⊥
Works links growth room (Demo number) opened closed log a b s = ⊥
Works links growth room Play opened closed log a b s = ⊥

-- whether it is one of these tasks
abbrev pub works_over : Task → Bool
works_over Usage = false
works_over (Init host) = false
works_over Inetd = true
works_over (Serve address) = false
works_over (AddActor name locked) = true
works_over (AddPeer host key address relay) = true
works_over Deliver = true
works_over (Export table) = true
works_over Check = true
works_over Migrate = false
works_over Fill = false
works_over (Report name kind) = false
works_over (Demo number) = false
works_over Play = false

-- whether it may add to the store
abbrev pub may_add : Task → Bool
may_add Usage = false
may_add (Init host) = false
may_add Inetd = true
may_add (Serve address) = false
may_add (AddActor name locked) = true
may_add (AddPeer host key address relay) = true
may_add Deliver = true
may_add (Export table) = false
may_add Check = false
may_add Migrate = false
may_add Fill = false
may_add (Report name kind) = false
may_add (Demo number) = false
may_add Play = false

-- whether it asks a store, on a disk or in a vault, and nothing else of the kind
abbrev pub asks_store : Task → Bool
asks_store Usage = false
asks_store (Init host) = true
asks_store Inetd = true
asks_store (Serve address) = false
asks_store (AddActor name locked) = true
asks_store (AddPeer host key address relay) = true
asks_store Deliver = true
asks_store (Export table) = true
asks_store Check = true
asks_store Migrate = false
asks_store Fill = false
asks_store (Report name kind) = false
asks_store (Demo number) = false
asks_store Play = false

-- whether its store may be in a vault
abbrev pub may_be_in_vault : Task → Bool
may_be_in_vault Usage = false
may_be_in_vault (Init host) = true
may_be_in_vault Inetd = true
may_be_in_vault (Serve address) = false
may_be_in_vault (AddActor name locked) = true
may_be_in_vault (AddPeer host key address relay) = true
may_be_in_vault Deliver = true
may_be_in_vault (Export table) = true
may_be_in_vault Check = true
may_be_in_vault Migrate = true
may_be_in_vault Fill = false
may_be_in_vault (Report name kind) = true
may_be_in_vault (Demo number) = false
may_be_in_vault Play = false

-- what is reported of a store that was not opened, which is nothing by `inetd`
abbrev pub ReportsUnopened : Task → StoreFault → Output → Output → ℕ → Type 0
ReportsUnopened Inetd fault first now status = (status ≡ status_by fault) × (now ≡ first)
ReportsUnopened task fault first now status = ReportsStore fault first now status

-- ---- over the store of a disk

-- What each task does that has a store and asks nothing else of the kind, over this disk.
abbrev pub DoesOnDisk : {D W K : Type 0} → DiskGhosts D → LinkGhosts K → Task → (before after : D)
    → Sight W K → Sight W K → ℕ → Type 0
DoesOnDisk disks links Usage before after a b s = ⊥
DoesOnDisk disks links (Init host) before after a b s =
    MakesStore disks a.time before after a.output b.output host s
    × KeepsStore (medium disks before) (medium disks after)
DoesOnDisk disks links Inetd before after a b s =
    ServesStore a.time (medium disks before) (medium disks after) (scene_in a) (scene_in b) s
    × (s ≡ 0 → TalksOverStore a.time (medium disks before) (medium disks after) (scene_in a)
    (scene_in b))
    × HasCauses (faults_in a) (faults_in b) s
DoesOnDisk disks links (Serve address) before after a b s = ⊥
DoesOnDisk disks links (AddActor name locked) before after a b s =
    AddsMember a.time (medium disks before) (medium disks after) a.chance b.chance a.output b.output
    name locked s
DoesOnDisk disks links (AddPeer host key address relay) before after a b s =
    AddsPeer a.time (medium disks before) (medium disks after) a.output b.output host key address
    relay s
DoesOnDisk disks links Deliver before after a b s =
    DeliversBy links a.time (medium disks before) (medium disks after) a.benches b.benches a.output
    b.output s
DoesOnDisk disks links (Export table) before after a b s =
    ExportsStore table (medium disks before) (medium disks after) a.output b.output s
DoesOnDisk disks links Check before after a b s =
    ChecksStore (medium disks before) (medium disks after) a.output b.output s
DoesOnDisk disks links Migrate before after a b s = ⊥
DoesOnDisk disks links Fill before after a b s = ⊥
DoesOnDisk disks links (Report name kind) before after a b s = ⊥
DoesOnDisk disks links (Demo number) before after a b s = ⊥
DoesOnDisk disks links Play before after a b s = ⊥
