-- From what a run did over a store that was opened to what it did with its store.
use Rattle.std.proofs.Common.{◌≡◌, ◌<◌, ◌==◌, ℕ, Bool, true, false, List, [], ◌∷◌, length, max, Option, Some, None, arith, inl, inr, refl, sym, ap, subst, ◌∙◌}
use Rattle.std.specs.Global.{Vec}
use Rattle.std.specs.Vec.{with_items}
use Rattle.fedi_address.specs.Hosts.{IsHost}
use Rattle.fedi_log.specs.Keeping.{HoldsFrom, State, base_of}
use Rattle.fedi_log.specs.Log.{Log, given}
use Rattle.fedi_logged.specs.Conversations.{IsNow}
use Rattle.fedi_logged.specs.Endings.{Faults, Output}
use Rattle.fedi_logged.specs.Marks.{Survives}
use Rattle.fedi_objects.specs.declared.entry.Entry.TheVariants.{Hosted}
use Rattle.fedi_outside.specs.Keepers.{Crashes}
use Rattle.fedi_outside.specs.declared.disks.Disk.{Ghosts as DiskGhosts}
use Rattle.fedi_outside.specs.declared.doors.Bench.{Bench}
use Rattle.fedi_outside.specs.declared.keepers.Keeper.{Ghosts as KeeperGhosts}
use Rattle.fedi_outside.specs.declared.links.Link.{Ghosts as LinkGhosts}
use Rattle.fedi_outside.specs.Vaults.{VaultState}
use Rattle.fedi_startup.specs.Surviving.{growth, room}
use Rattle.fedi_startup.specs.Vaults.{IsClosedIn, IsOpenedIn}
use Rattle.fedi_startup.specs.declared.faults.StoreFault.{StoreFault}
use Rattle.fedi_startup.specs.declared.faults.StoreFault.TheVariants as faults
use Rattle.fedi_program.specs.Commands.{Task, Usage, Init, Inetd, Serve, AddActor, AddPeer, Deliver, Export, Check, Migrate, Fill, Report, Demo, Play, names_store, place_if, task_of}
use Rattle.fedi_program.specs.Runs.{asks_disk, asks_vault}
use Rattle.fedi_program.specs.declared.commands.Command.{Command}
use Rattle.fedi_program.specs.declared.commands.Command.TheVariants as commands
use Rattle.fedi_program.specs.Delivering.{DeliversBy}
use Rattle.fedi_program.specs.Endings.{HasCauses}
use Rattle.fedi_program.specs.Seen.{Medium, medium}
use Rattle.fedi_program.specs.Stores.{IsNoHost, IsRefused, IsServedAlone, ReportsStore, ServesStore, status_by}
use Rattle.fedi_program.specs.Vaults.{DoesIn, EndsMakingIn, IsRunIn, MakesIn, WorksIn}
use Rattle.fedi_program.specs.Working.{DoesOnDisk, IsUnasked, ReportsUnopened, Sight, TriesBy, Works, asks_store, faults_in, may_add, scene_in, works_over}
use Rattle.fedi_program.proofs.RunLemmas.{store_talks}

-- ---- no call of the input or the output failed

quiet : (status : ℕ) (n : Faults) → (status == 6) ≡ false → (status ≡ 7 → ⊥) → HasCauses n n status
quiet status n not_six not_seven = record {
  reads = rw not_six refl;
  writes = inl refl;
  failed = λ seven. absurd (not_seven seven);
  calm = λ _. refl;
}

-- a store that is not opened has no such cause
unopened_causes : (fault : StoreFault) (n : Faults) → HasCauses n n (status_by fault)
unopened_causes faults.NotAStore n = quiet 3 n refl (λ z. omega (arith, z))
unopened_causes faults.OldFormat n = quiet 14 n refl (λ z. omega (arith, z))
unopened_causes (faults.DamagedByte place) n = quiet 4 n refl (λ z. omega (arith, z))
unopened_causes (faults.DamagedRecord place) n = quiet 4 n refl (λ z. omega (arith, z))
unopened_causes faults.Failed n = quiet 5 n refl (λ z. omega (arith, z))
unopened_causes faults.Memory n = quiet 12 n refl (λ z. omega (arith, z))

-- ---- over the store of a disk

-- what is due was tried, by the first of these benches
tried_by : {W K : Type 0} (links : LinkGhosts K) (told : Option ℕ) (before after : Medium) (opened closed : State) (log : Log) (benches now : List (Bench W K)) (first out : Output) (status : ℕ)
    → IsServedAlone before after opened closed log → TriesBy links growth room told opened closed benches now first out status → DeliversBy links told before after benches now first out status
tried_by links told before after opened closed log [] now first out status served tries = absurd tries
tried_by links told before after opened closed log (b ∷ benches) now first out status served (link, same, tries) = (link, same, inr (opened, closed, (log, served), tries))

-- the benches are a slice meanwhile
pub tried_in : {W K : Type 0} (links : LinkGhosts K) (growth room : ℕ → ℕ) (told : Option ℕ) (opened closed : State) (benches : Vec (Bench W K)) (slice now : List (Bench W K)) (first out : Output)
    (status : ℕ) → slice ≡ benches.items → (with_items benches now).items ≡ now → TriesBy links growth room told opened closed slice now first out status
    → TriesBy links growth room told opened closed benches.items (with_items benches now).items first out status
tried_in links growth room told opened closed benches slice now first out status was is tries =
    subst (λ (l : List _). TriesBy links growth room told opened closed benches.items l first out status) (sym is)
    (subst (λ (l : List _). TriesBy links growth room told opened closed l now first out status) was tries)

-- or the store was not opened
untried_by : {W K : Type 0} (links : LinkGhosts K) (told : Option ℕ) (before after : Medium) (fault : StoreFault) (benches now : List (Bench W K)) (first out : Output) (status : ℕ)
    → 0 < length benches → IsRefused before after fault → now ≡ benches → ReportsStore fault first out status → DeliversBy links told before after benches now first out status
untried_by links told before after fault [] now first out status some refused same reports = absurd (omega (arith, some))
untried_by links told before after fault (b ∷ benches) now first out status some refused same reports = (b.link, same, inl (fault, refused, refl, reports))

module _ {D W K : Type 0} (disks : DiskGhosts D) (links : LinkGhosts K) where
  pub worked_on_disk : (task : Task) (before after : D) (a b : Sight W K) (s : ℕ) (opened closed : State) (log : Log) → may_add task ≡ true
      → IsServedAlone (medium disks before) (medium disks after) opened closed log → Works links growth room task opened closed log a b s → DoesOnDisk disks links task before after a b s
  worked_on_disk Usage before after a b s opened closed log may served works = absurd (cc may)
  worked_on_disk (Init host) before after a b s opened closed log may served works = absurd (cc may)
  worked_on_disk Inetd before after a b s opened closed log may served (holds, causes) =
      let does : ServesStore a.time (medium disks before) (medium disks after) (scene_in a) (scene_in b) s = inr (opened, closed, log, served, holds) in
      (does, (λ done. store_talks a.time (medium disks before) (medium disks after) (scene_in a) (scene_in b) s done does), causes)
  worked_on_disk (Serve address) before after a b s opened closed log may served works = absurd (cc may)
  worked_on_disk (AddActor name locked) before after a b s opened closed log may served works = inr (opened, closed, (log, served), works)
  worked_on_disk (AddPeer host key address relay) before after a b s opened closed log may served works = inr (opened, closed, (log, served), works)
  worked_on_disk Deliver before after a b s opened closed log may served works =
      tried_by links a.time (medium disks before) (medium disks after) opened closed log a.benches b.benches a.output b.output s served works
  worked_on_disk (Export table) before after a b s opened closed log may served works = absurd (cc may)
  worked_on_disk Check before after a b s opened closed log may served works = absurd (cc may)
  worked_on_disk Migrate before after a b s opened closed log may served works = absurd (cc may)
  worked_on_disk Fill before after a b s opened closed log may served works = absurd (cc may)
  worked_on_disk (Report name kind) before after a b s opened closed log may served works = absurd (cc may)
  worked_on_disk (Demo number) before after a b s opened closed log may served works = absurd (cc may)
  worked_on_disk Play before after a b s opened closed log may served works = absurd (cc may)

  pub unopened_on_disk : (task : Task) (before after : D) (a b : Sight W K) (s : ℕ) (fault : StoreFault) → may_add task ≡ true → (task ≡ Deliver → 0 < length a.benches)
      → IsRefused (medium disks before) (medium disks after) fault → IsUnasked a b → ReportsUnopened task fault a.output b.output s → DoesOnDisk disks links task before after a b s
  unopened_on_disk Usage before after a b s fault may linked refused unasked reports = absurd (cc may)
  unopened_on_disk (Init host) before after a b s fault may linked refused unasked reports = absurd (cc may)
  unopened_on_disk Inetd before after a b s fault may linked refused unasked (is, same) =
      let does : ServesStore a.time (medium disks before) (medium disks after) (scene_in a) (scene_in b) s = inl (fault, refused, rw (unasked.input, same) refl, is) in (
        does,
        (λ done. store_talks a.time (medium disks before) (medium disks after) (scene_in a) (scene_in b) s done does),
        rw (is, unasked.reads, same) (unopened_causes fault (faults_in a)),
      )
  unopened_on_disk (Serve address) before after a b s fault may linked refused unasked reports = absurd (cc may)
  unopened_on_disk (AddActor name locked) before after a b s fault may linked refused unasked reports = inl (fault, refused, unasked.chance, reports)
  unopened_on_disk (AddPeer host key address relay) before after a b s fault may linked refused unasked reports = inl (fault, refused, reports)
  unopened_on_disk Deliver before after a b s fault may linked refused unasked reports =
      untried_by links a.time (medium disks before) (medium disks after) fault a.benches b.benches a.output b.output s (linked refl) refused unasked.benches reports
  unopened_on_disk (Export table) before after a b s fault may linked refused unasked reports = absurd (cc may)
  unopened_on_disk Check before after a b s fault may linked refused unasked reports = absurd (cc may)
  unopened_on_disk Migrate before after a b s fault may linked refused unasked reports = absurd (cc may)
  unopened_on_disk Fill before after a b s fault may linked refused unasked reports = absurd (cc may)
  unopened_on_disk (Report name kind) before after a b s fault may linked refused unasked reports = absurd (cc may)
  unopened_on_disk (Demo number) before after a b s fault may linked refused unasked reports = absurd (cc may)
  unopened_on_disk Play before after a b s fault may linked refused unasked reports = absurd (cc may)

-- ---- the commands that are left

-- beside those that have no store of this kind
pub asks_others : (command : Command) → (command ≡ commands.Usage → ⊥) → ((number : _) → command ≡ commands.Demo number → ⊥) → ((address : _) → command ≡ commands.Serve address → ⊥)
    → (command ≡ commands.Migrate → ⊥) → (command ≡ commands.Fill → ⊥) → ((name kind : _) → command ≡ commands.Report name kind → ⊥) → (command ≡ commands.Play → ⊥) → asks_store (task_of command) ≡ true
asks_others commands.Usage usage demo serve migrate fill report play = absurd (usage refl)
asks_others (commands.Init host) usage demo serve migrate fill report play = refl
asks_others commands.Inetd usage demo serve migrate fill report play = refl
asks_others (commands.Serve address) usage demo serve migrate fill report play = absurd (serve address refl)
asks_others (commands.AddActor name locked) usage demo serve migrate fill report play = refl
asks_others (commands.AddPeer peer) usage demo serve migrate fill report play = refl
asks_others commands.Deliver usage demo serve migrate fill report play = refl
asks_others (commands.Export table) usage demo serve migrate fill report play = refl
asks_others commands.Check usage demo serve migrate fill report play = refl
asks_others commands.Migrate usage demo serve migrate fill report play = absurd (migrate refl)
asks_others commands.Fill usage demo serve migrate fill report play = absurd (fill refl)
asks_others (commands.Report name kind) usage demo serve migrate fill report play = absurd (report name kind refl)
asks_others (commands.Demo number) usage demo serve migrate fill report play = absurd (demo number refl)
asks_others commands.Play usage demo serve migrate fill report play = absurd (play refl)

-- what has its store in either place names one
pub names_one : (task : Task) → asks_store task ≡ true → names_store (Some task) ≡ true
names_one Usage asks = absurd (cc asks)
names_one (Init host) asks = refl
names_one Inetd asks = refl
names_one (Serve address) asks = absurd (cc asks)
names_one (AddActor name locked) asks = refl
names_one (AddPeer host key address relay) asks = refl
names_one Deliver asks = refl
names_one (Export table) asks = refl
names_one Check asks = refl
names_one Migrate asks = absurd (cc asks)
names_one Fill asks = absurd (cc asks)
names_one (Report name kind) asks = absurd (cc asks)
names_one (Demo number) asks = absurd (cc asks)
names_one Play asks = absurd (cc asks)

-- a store in a vault leaves the disk, and one on a disk the vault
pub disk_unasked : (is_a_table : Bool) (task : Task) (E : Type 0) → names_store (Some task) ≡ true → (is_a_table ≡ true → E) → asks_disk (place_if is_a_table) (Some task) ≡ false → E
disk_unasked true task E names here none = here refl
disk_unasked false task E names here none = let clash : true ≡ false = sym names ∙ none in absurd (cc clash)

pub vault_unasked : (is_a_table : Bool) (task : Task) (E : Type 0) → names_store (Some task) ≡ true → (is_a_table ≡ false → E) → asks_vault (place_if is_a_table) (Some task) ≡ false → E
vault_unasked true task E names here none = let clash : true ≡ false = sym names ∙ none in absurd (cc clash)
vault_unasked false task E names here none = here refl

-- beside those that make a store or only read it
pub adds_others : (command : Command) → asks_store (task_of command) ≡ true → ((host : _) → command ≡ commands.Init host → ⊥) → ((table : _) → command ≡ commands.Export table → ⊥)
    → (command ≡ commands.Check → ⊥) → may_add (task_of command) ≡ true
adds_others commands.Usage asks init export check = absurd (cc asks)
adds_others (commands.Init host) asks init export check = absurd (init host refl)
adds_others commands.Inetd asks init export check = refl
adds_others (commands.Serve address) asks init export check = absurd (cc asks)
adds_others (commands.AddActor name locked) asks init export check = refl
adds_others (commands.AddPeer peer) asks init export check = refl
adds_others commands.Deliver asks init export check = refl
adds_others (commands.Export table) asks init export check = absurd (export table refl)
adds_others commands.Check asks init export check = absurd (check refl)
adds_others commands.Migrate asks init export check = absurd (cc asks)
adds_others commands.Fill asks init export check = absurd (cc asks)
adds_others (commands.Report name kind) asks init export check = absurd (cc asks)
adds_others (commands.Demo number) asks init export check = absurd (cc asks)
adds_others commands.Play asks init export check = absurd (cc asks)

-- beside those that make a store
pub works_others : (command : Command) → asks_store (task_of command) ≡ true → ((host : _) → command ≡ commands.Init host → ⊥) → works_over (task_of command) ≡ true
works_others commands.Usage asks init = absurd (cc asks)
works_others (commands.Init host) asks init = absurd (init host refl)
works_others commands.Inetd asks init = refl
works_others (commands.Serve address) asks init = absurd (cc asks)
works_others (commands.AddActor name locked) asks init = refl
works_others (commands.AddPeer peer) asks init = refl
works_others commands.Deliver asks init = refl
works_others (commands.Export table) asks init = refl
works_others commands.Check asks init = refl
works_others commands.Migrate asks init = absurd (cc asks)
works_others commands.Fill asks init = absurd (cc asks)
works_others (commands.Report name kind) asks init = absurd (cc asks)
works_others (commands.Demo number) asks init = absurd (cc asks)
works_others commands.Play asks init = absurd (cc asks)

-- what may add to a store works over it
pub adds_work : (task : Task) → may_add task ≡ true → works_over task ≡ true
adds_work Usage may = absurd (cc may)
adds_work (Init host) may = absurd (cc may)
adds_work Inetd may = refl
adds_work (Serve address) may = absurd (cc may)
adds_work (AddActor name locked) may = refl
adds_work (AddPeer host key address relay) may = refl
adds_work Deliver may = refl
adds_work (Export table) may = absurd (cc may)
adds_work Check may = absurd (cc may)
adds_work Migrate may = absurd (cc may)
adds_work Fill may = absurd (cc may)
adds_work (Report name kind) may = absurd (cc may)
adds_work (Demo number) may = absurd (cc may)
adds_work Play may = absurd (cc may)

-- what is reported by every command but `inetd`
pub reports_others : (command : Command) (fault : StoreFault) (first now : Output) (status : ℕ) → (command ≡ commands.Inetd → ⊥) → ReportsStore fault first now status
    → ReportsUnopened (task_of command) fault first now status
reports_others commands.Usage fault first now status other reports = reports
reports_others (commands.Init host) fault first now status other reports = reports
reports_others commands.Inetd fault first now status other reports = absurd (other refl)
reports_others (commands.Serve address) fault first now status other reports = reports
reports_others (commands.AddActor name locked) fault first now status other reports = reports
reports_others (commands.AddPeer peer) fault first now status other reports = reports
reports_others commands.Deliver fault first now status other reports = reports
reports_others (commands.Export table) fault first now status other reports = reports
reports_others commands.Check fault first now status other reports = reports
reports_others commands.Migrate fault first now status other reports = reports
reports_others commands.Fill fault first now status other reports = reports
reports_others (commands.Report name kind) fault first now status other reports = reports
reports_others (commands.Demo number) fault first now status other reports = reports
reports_others commands.Play fault first now status other reports = reports

-- ---- over the store of a vault

-- what an opening and a closing say of the vault, and its keeper survived along a log
pub ran_in : {P : Type 0} (keepers : KeeperGhosts P) (keeper : P) (before middle after : VaultState) (opened closed : State) (log : Log) (x y : Crashes)
    → opened.keeper ≡ keepers.shown keeper → IsOpenedIn before opened → middle.faults ≡ before.faults → IsClosedIn after closed → after.faults ≡ max middle.faults closed.keeper.faults
    → Survives (base_of keepers.growth keepers.room opened) None (given opened.history) log closed x y → IsRunIn keepers before after opened closed log
ran_in keepers keeper before middle after opened closed log x y shown opens still closes count survives =
    let alone = survives.holds.grown in
    let holds : HoldsFrom (base_of keepers.growth keepers.room opened) (given opened.history) closed log = record { past = alone.past; is = alone.is; holds = survives.holds.holds } in (
      record {
        opens = opens;
        closes = closes;
        holds = holds;
        marks = survives.marks;
        faults = count ∙ ap (λ (n : ℕ). max n closed.keeper.faults) still;
      },
      alone,
      (keeper, shown),
    )

-- no host was read, so the vault was not asked
pub no_host_in : {P : Type 0} (keepers : KeeperGhosts P) (told : Option ℕ) (vault : VaultState) (first now : Output) (host : List ℕ) (status : ℕ) → IsNoHost host first now status
    → MakesIn keepers told vault vault first now host status
no_host_in keepers told vault first now host status (inl (twelve, wrote)) = inl (twelve, refl, wrote)
no_host_in keepers told vault first now host status (inr (bad, reports)) = inr (inl (bad, refl, reports))

-- the host that was read is the text that was given
pub making_ends_in : {P : Type 0} (keepers : KeeperGhosts P) (told : Option ℕ) (before after : VaultState) (first now : Output) (host other : List ℕ) (moment status : ℕ) → other ≡ host → IsHost other → IsNow told moment
    → EndsMakingIn keepers before after first now host (Hosted other moment) status → MakesIn keepers told before after first now host status
making_ends_in keepers told before after first now host other moment status same valid is ends =
    inr (inr (subst IsHost same valid, moment, is, subst (λ (h : List ℕ). EndsMakingIn keepers before after first now host (Hosted h moment) status) same ends))

module _ {W K P : Type 0} (links : LinkGhosts K) (keepers : KeeperGhosts P) where
  pub worked_in : (task : Task) (before after : VaultState) (a b : Sight W K) (s : ℕ) → works_over task ≡ true → WorksIn links keepers task before after a b s
      → DoesIn links keepers task before after a b s
  worked_in Usage before after a b s may works = absurd (cc may)
  worked_in (Init host) before after a b s may works = absurd (cc may)
  worked_in Inetd before after a b s may works = works
  worked_in (Serve address) before after a b s may works = absurd (cc may)
  worked_in (AddActor name locked) before after a b s may works = works
  worked_in (AddPeer host key address relay) before after a b s may works = works
  worked_in Deliver before after a b s may works = works
  worked_in (Export table) before after a b s may works = works
  worked_in Check before after a b s may works = works
  worked_in Migrate before after a b s may works = absurd (cc may)
  worked_in Fill before after a b s may works = absurd (cc may)
  worked_in (Report name kind) before after a b s may works = absurd (cc may)
  worked_in (Demo number) before after a b s may works = absurd (cc may)
  worked_in Play before after a b s may works = absurd (cc may)
