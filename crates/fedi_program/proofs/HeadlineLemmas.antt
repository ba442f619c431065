-- From what a task does to all that its run promises.
use Rattle.std.proofs.Common.{◌≡◌, ◌≢◌, ◌==◌, ◌||◌, ℕ, Bool, true, false, List, [], ◌∷◌, Option, Some, None, inl, inr, refl, sym, subst, ◌∙◌}
use Rattle.fedi_logged.specs.declared.sessions.SessionEnd.{SessionEnd}
use Rattle.fedi_logged.specs.declared.sessions.SessionEnd.TheVariants.{End, CutShort, Closed, ReadFault, WriteFault}
use Rattle.fedi_logged.specs.declared.sessions.SessionEnd.TheVariants as sessions
use Rattle.fedi_outside.specs.declared.disks.Disk.{Ghosts as DiskGhosts}
use Rattle.fedi_outside.specs.declared.doors.Bench.{Bench}
use Rattle.fedi_outside.specs.declared.keepers.Keeper.{Ghosts as KeeperGhosts}
use Rattle.fedi_outside.specs.declared.links.Link.{Ghosts as LinkGhosts}
use Rattle.fedi_startup.specs.declared.faults.MakeFault.TheVariants as makes
use Rattle.fedi_startup.specs.declared.faults.StoreFault.{StoreFault}
use Rattle.fedi_startup.specs.declared.faults.StoreFault.TheVariants as faults
use Rattle.fedi_startup.specs.Surviving.{growth, room}
use Rattle.fedi_log.specs.Keeping.{State}
use Rattle.fedi_log.specs.Log.{Log}
use Rattle.fedi_logged.specs.Attempts.{Exchange}
use Rattle.fedi_logged.specs.Conversations.{Setting}
use Rattle.fedi_logged.specs.Endings.{Output, Scene}
use Rattle.fedi_logged.specs.Turning.{setting_by}
use Rattle.fedi_report.specs.Reports.{check_text}
use Rattle.fedi_town.specs.Histories.{town}
use Rattle.fedi_outside.specs.Vaults.{VaultState}
use Rattle.fedi_town.specs.Queues.{Delivery}
use Rattle.fedi_program.specs.Commands.{Task, Usage, Init, Inetd, Serve, AddActor, AddPeer, Deliver, Export, Check, Migrate, Fill, Report, Demo, Play, InVault, OnDisk, Place, address_of, names_table, place_if, place_in, task_in}
use Rattle.fedi_program.specs.Complete.{CanBeFilled, DoorsAreCalm, IsCalm, IsComplete}
use Rattle.fedi_program.specs.Delivering.{DeliversBy, EndsTrying, Trial}
use Rattle.fedi_program.specs.Demonstrating.{Demonstrates}
use Rattle.fedi_program.specs.Endings.{HoldsSession, Prints, status_of}
use Rattle.fedi_program.specs.Headline.{Does, DoesAt, IsCompleteAt, IsSafe, Kinds, LeavesOthers, MigratesAt, ReportsAt, Runs, World, chance, faults as fails, medium, output, outside, scene, selection, sight, time, vault}
use Rattle.fedi_program.specs.Members.{Reports}
use Rattle.fedi_program.specs.Playing.{PlaysScript}
use Rattle.fedi_program.specs.Runs.{fills_vault, is_status_at, is_status_of, lays_rows, opens_store}
use Rattle.fedi_program.specs.Seen.{Chance, Medium}
use Rattle.fedi_program.specs.Stores.{AddsMember, AddsPeer, ChecksStore, ExportsStore, IsKeptSafe, MakesStore, PrintsTable, ServesStore, status_by, table_text}
use Rattle.fedi_program.specs.Usage.{usage_text}
use Rattle.fedi_program.specs.Vaults.{DoesIn, IsKeptIn, MakesIn, WorksIn}
use Rattle.fedi_program.specs.Working.{LeavesRest, PrintsLine, Sight, TriesBy, asks_store, may_be_in_vault, scene_in}
use Rattle.fedi_program.specs.declared.commands.Table.{Table}
use Rattle.fedi_program.proofs.CompleteLemmas.{add_actor_complete, add_peer_complete, check_complete, deliver_by_complete, demo_complete, export_complete, inetd_complete, init_complete, play_complete, prints_complete, serve_complete}
use Rattle.fedi_program.proofs.CompleteInLemmas.{in_complete}
use Rattle.fedi_program.proofs.FillLemmas.{fill_complete, fill_status, out_complete, out_status}
use Rattle.fedi_program.proofs.MemberLemmas.{member_status, print_status}
use Rattle.fedi_program.proofs.MigrateLemmas.{migrate_complete, migrate_status}
use Rattle.fedi_program.proofs.PeerLemmas.{peer_status}
use Rattle.fedi_program.proofs.ReportLemmas.{disk_report_complete, disk_report_status, vault_report_complete, vault_report_status}
use Rattle.fedi_program.proofs.TableLemmas.{may_be_table, of_place}
use Rattle.fedi_program.proofs.WorkLemmas.{names_one}
use Rattle.fedi_program.proofs.RunLemmas.{added_safe, checked_safe, delivered_safe, doors_safe, doors_status, exported_safe, known_status, peered_safe, served_safe, told_status}

-- ---- the status

init_status : {D : Type 0} (disks : DiskGhosts D) (told : Option ℕ) (before after : D) (first now : Output) (host : List ℕ) (status : ℕ)
    → MakesStore disks told before after first now host status → is_status_of (Some (Init host)) status ≡ true
init_status disks told before after first now host status (inl memory) = known_status (Some (Init host)) status 12 refl memory.0
init_status disks told before after first now host status (inr (inl bad)) = known_status (Some (Init host)) status 10 refl bad.2.0
init_status disks told before after first now host status (inr (inr (_, moment, _, _, inl made))) =
    print_status (Some (Init host)) first now _ status refl refl made.1
init_status disks told before after first now host status (inr (inr (_, moment, _, _, inr (makes.Exists, _, tells)))) =
    known_status (Some (Init host)) status 9 refl tells.0
init_status disks told before after first now host status (inr (inr (_, moment, _, _, inr (makes.Full, why, tells)))) = absurd why
init_status disks told before after first now host status (inr (inr (_, moment, _, _, inr (makes.Failed, _, tells)))) =
    known_status (Some (Init host)) status 5 refl tells.0
init_status disks told before after first now host status (inr (inr (_, moment, _, _, inr (makes.Memory, _, tells)))) =
    known_status (Some (Init host)) status 12 refl tells.0

of_fault : (fault : StoreFault) → is_status_of (Some Inetd) (status_by fault) ≡ true
of_fault faults.NotAStore = refl
of_fault faults.OldFormat = refl
of_fault (faults.DamagedByte place) = refl
of_fault (faults.DamagedRecord place) = refl
of_fault faults.Failed = refl
of_fault faults.Memory = refl

of_end : (ending : SessionEnd) → is_status_of (Some Inetd) (status_of ending) ≡ true
of_end End = refl
of_end Closed = refl
of_end CutShort = refl
of_end ReadFault = refl
of_end WriteFault = refl
of_end sessions.Memory = refl

session_status : (w : Setting) (opened : State) (log : Log) (first now : Scene) (status : ℕ) → HoldsSession w opened log first now status → is_status_of (Some Inetd) status ≡ true
session_status w opened log first now status (inl (ending, is, _)) = known_status (Some Inetd) status (status_of ending) (of_end ending) is
session_status w opened log first now status (inr unserved) = known_status (Some Inetd) status 12 refl unserved.0

inetd_status : (told : Option ℕ) (before after : Medium) (first now : Scene) (status : ℕ) → ServesStore told before after first now status
    → is_status_of (Some Inetd) status ≡ true
inetd_status told before after first now status (inl (fault, _, _, is)) = known_status (Some Inetd) status (status_by fault) (of_fault fault) is
inetd_status told before after first now status (inr (opened, closed, log, _, holds)) = session_status (setting_by growth room told None opened) opened log first now status holds

add_actor_status : (told : Option ℕ) (before after : Medium) (chance left : Chance) (first now : Output) (name : List ℕ) (locked : Bool) (status : ℕ)
    → AddsMember told before after chance left first now name locked status → is_status_of (Some (AddActor name locked)) status ≡ true
add_actor_status told before after chance left first now name locked status (inl (fault, _, _, tells)) =
    told_status (Some (AddActor name locked)) fault first now status refl refl refl refl refl tells
add_actor_status told before after chance left first now name locked status (inr (opened, closed, _, makes)) =
    member_status growth room told chance left opened closed first now name locked status makes

add_peer_status : (told : Option ℕ) (before after : Medium) (first now : Output) (host key address : List ℕ) (relay : Bool) (status : ℕ)
    → AddsPeer told before after first now host key address relay status → is_status_of (Some (AddPeer host key address relay)) status ≡ true
add_peer_status told before after first now host key address relay status (inl (fault, _, tells)) =
    told_status (Some (AddPeer host key address relay)) fault first now status refl refl refl refl refl tells
add_peer_status told before after first now host key address relay status (inr (opened, closed, _, makes)) =
    peer_status growth room told opened closed first now host key address relay status makes

tries_status : (room : ℕ → ℕ) (moment : ℕ) (last after : State) (tried : List Trial) (left : List Delivery) (beyond : List Exchange) (first now : Output) (status : ℕ)
    → EndsTrying room moment last after tried left beyond first now status → is_status_of (Some Deliver) status ≡ true
tries_status room moment last after tried left beyond first now status (inl (_, _, _, inl done)) = known_status (Some Deliver) status 0 refl done.0
tries_status room moment last after tried left beyond first now status (inl (_, _, _, inr broken)) = known_status (Some Deliver) status 7 refl broken.0
tries_status room moment last after tried left beyond first now status (inr (inl (_, _, lost))) = known_status (Some Deliver) status 7 refl lost.0
tries_status room moment last after tried left beyond first now status (inr (inr (inl (x, _, _, _, inl full)))) = known_status (Some Deliver) status 13 refl full.0
tries_status room moment last after tried left beyond first now status (inr (inr (inl (x, _, _, _, inr failed)))) = known_status (Some Deliver) status 5 refl failed.0
tries_status room moment last after tried left beyond first now status (inr (inr (inr memory))) = known_status (Some Deliver) status 12 refl memory.0

deliver_status : {W K : Type 0} (links : LinkGhosts K) (told : Option ℕ) (before after : Medium) (benches later : List (Bench W K)) (first now : Output) (status : ℕ)
    → DeliversBy links told before after benches later first now status → is_status_of (Some Deliver) status ≡ true
deliver_status links told before after [] later first now status delivered = absurd delivered
deliver_status links told before after (b ∷ benches) later first now status (link, _, inl (fault, _, _, tells)) =
    told_status (Some Deliver) fault first now status refl refl refl refl refl tells
deliver_status links told before after (b ∷ benches) later first now status (link, _, inr (opened, closed, _, tries)) =
    tries_status room tries.moment tries.last closed tries.tried tries.left tries.beyond first now status tries.ends

export_status : (table : Table) (before after : Medium) (first now : Output) (status : ℕ) → ExportsStore table before after first now status
    → is_status_of (Some (Export table)) status ≡ true
export_status table before after first now status (inl (fault, _, tells)) = told_status (Some (Export table)) fault first now status refl refl refl refl refl tells
export_status table before after first now status (inr (opened, _, _, inl done)) = known_status (Some (Export table)) status 0 refl done.0
export_status table before after first now status (inr (opened, _, _, inr (inl broken))) = known_status (Some (Export table)) status 7 refl broken.0
export_status table before after first now status (inr (opened, _, _, inr (inr memory))) = known_status (Some (Export table)) status 12 refl memory.0

check_status : (before after : Medium) (first now : Output) (status : ℕ) → ChecksStore before after first now status → is_status_of (Some Check) status ≡ true
check_status before after first now status (inl (fault, _, tells)) = told_status (Some Check) fault first now status refl refl refl refl refl tells
check_status before after first now status (inr (opened, _, _, (tip, _, inl prints))) = print_status (Some Check) first now _ status refl refl prints
check_status before after first now status (inr (opened, _, _, (tip, _, inr memory))) = known_status (Some Check) status 12 refl memory.0

demo_status : (number : ℕ) (first now : Output) (status : ℕ) → Demonstrates number first now status → is_status_of (Some (Demo number)) status ≡ true
demo_status number first now status (inl (text, _, prints)) = print_status (Some (Demo number)) first now text status refl refl prints
demo_status number first now status (inr memory) = known_status (Some (Demo number)) status 12 refl memory.0

play_status : (first now : Scene) (status : ℕ) → PlaysScript first now status → is_status_of (Some Play) status ≡ true
play_status first now status (inl (inl failed, _)) = known_status (Some Play) status 6 refl failed
play_status first now status (inl (inr memory, _)) = known_status (Some Play) status 12 refl memory
play_status first now status (inr (text, false, _, prints)) = print_status (Some Play) first.output now.output text status refl refl prints
play_status first now status (inr (text, true, _, reports)) = known_status (Some Play) status 10 refl reports.0

-- ---- over a vault

-- `init` may end with these, and with the one for no room
abbrev MayEndInit : List ℕ → ℕ → Type 0
MayEndInit host status = (is_status_of (Some (Init host)) status || (status == 13)) ≡ true

init_known : (host : List ℕ) (status known : ℕ) → (is_status_of (Some (Init host)) known || (known == 13)) ≡ true → status ≡ known → MayEndInit host status
init_known host status known may is = rw is may

init_prints : (host : List ℕ) (first now : Output) (line : List ℕ) (status : ℕ) → Prints first now line status → MayEndInit host status
init_prints host first now line status (inl done) = init_known host status 0 refl done.0
init_prints host first now line status (inr broken) = init_known host status 7 refl broken.0

made_in_status : {P : Type 0} (keepers : KeeperGhosts P) (told : Option ℕ) (before after : VaultState) (first now : Output) (host : List ℕ) (status : ℕ) → MakesIn keepers told before after first now host status
    → MayEndInit host status
made_in_status keepers told before after first now host status (inl memory) = init_known host status 12 refl memory.0
made_in_status keepers told before after first now host status (inr (inl bad)) = init_known host status 10 refl bad.2.0
made_in_status keepers told before after first now host status (inr (inr (_, moment, _, inl made))) = init_prints host first now _ status made.1
made_in_status keepers told before after first now host status (inr (inr (_, moment, _, inr (makes.Exists, _, tells)))) = init_known host status 9 refl tells.0
made_in_status keepers told before after first now host status (inr (inr (_, moment, _, inr (makes.Full, _, tells)))) = init_known host status 13 refl tells.0
made_in_status keepers told before after first now host status (inr (inr (_, moment, _, inr (makes.Failed, _, tells)))) = init_known host status 5 refl tells.0
made_in_status keepers told before after first now host status (inr (inr (_, moment, _, inr (makes.Memory, _, tells)))) = init_known host status 12 refl tells.0

table_status : (table : Table) (first now : Output) (text : List ℕ) (status : ℕ) → PrintsTable first now text status → is_status_of (Some (Export table)) status ≡ true
table_status table first now text status (inl done) = known_status (Some (Export table)) status 0 refl done.0
table_status table first now text status (inr (inl broken)) = known_status (Some (Export table)) status 7 refl broken.0
table_status table first now text status (inr (inr memory)) = known_status (Some (Export table)) status 12 refl memory.0

line_status : (first now : Output) (line : List ℕ) (status : ℕ) → PrintsLine first now line status → is_status_of (Some Check) status ≡ true
line_status first now line status (inl prints) = print_status (Some Check) first now line status refl refl prints
line_status first now line status (inr memory) = known_status (Some Check) status 12 refl memory.0

module _ {W K P : Type 0} (links : LinkGhosts K) (keepers : KeeperGhosts P) where
  due_status : (told : Option ℕ) (opened closed : State) (benches later : List (Bench W K)) (first now : Output) (status : ℕ)
      → TriesBy links keepers.growth keepers.room told opened closed benches later first now status → is_status_of (Some Deliver) status ≡ true
  due_status told opened closed [] later first now status tries = absurd tries
  due_status told opened closed (b ∷ benches) later first now status (link, _, tries) =
      tries_status keepers.room tries.moment tries.last closed tries.tried tries.left tries.beyond first now status tries.ends

  in_status : (task : Task) (before after : VaultState) (a b : Sight W K) (s : ℕ) → DoesIn links keepers task before after a b s → is_status_at InVault (Some task) s ≡ true
  in_status Usage before after a b s does = absurd does
  in_status (Init host) before after a b s does = made_in_status keepers a.time before after a.output b.output host s does
  in_status Inetd before after a b s (inl (fault, _, _, reports)) = known_status (Some Inetd) s (status_by fault) (of_fault fault) reports.0
  in_status Inetd before after a b s (inr (opened, closed, log, _, works)) =
      session_status (setting_by keepers.growth keepers.room a.time None opened) opened log (scene_in a) (scene_in b) s works.0
  in_status (Serve address) before after a b s does = absurd does
  in_status (AddActor name locked) before after a b s (inl (fault, _, _, reports)) =
      told_status (Some (AddActor name locked)) fault a.output b.output s refl refl refl refl refl reports
  in_status (AddActor name locked) before after a b s (inr (opened, closed, log, _, works)) =
      member_status keepers.growth keepers.room a.time a.chance b.chance opened closed a.output b.output name locked s works
  in_status (AddPeer host key address relay) before after a b s (inl (fault, _, _, reports)) =
      told_status (Some (AddPeer host key address relay)) fault a.output b.output s refl refl refl refl refl reports
  in_status (AddPeer host key address relay) before after a b s (inr (opened, closed, log, _, works)) =
      peer_status keepers.growth keepers.room a.time opened closed a.output b.output host key address relay s works
  in_status Deliver before after a b s (inl (fault, _, _, reports)) = told_status (Some Deliver) fault a.output b.output s refl refl refl refl refl reports
  in_status Deliver before after a b s (inr (opened, closed, log, _, works)) = due_status a.time opened closed a.benches b.benches a.output b.output s works
  in_status (Export table) before after a b s (inl (fault, _, _, reports)) = told_status (Some (Export table)) fault a.output b.output s refl refl refl refl refl reports
  in_status (Export table) before after a b s (inr (opened, closed, log, _, works)) =
      table_status table a.output b.output (table_text table (town opened.history)) s works.2
  in_status Check before after a b s (inl (fault, _, _, reports)) = told_status (Some Check) fault a.output b.output s refl refl refl refl refl reports
  in_status Check before after a b s (inr (opened, closed, log, _, works)) = line_status a.output b.output (check_text opened.history) s works.2
  in_status Migrate before after a b s does = absurd does
  in_status Fill before after a b s does = absurd does
  in_status (Report name kind) before after a b s does = absurd does
  in_status (Demo number) before after a b s does = absurd does
  in_status Play before after a b s does = absurd does

  -- what was opened, or was not
  works_safe : (task : Task) (before after : VaultState) (a b : Sight W K) (s : ℕ) → WorksIn links keepers task before after a b s → IsKeptIn keepers before after
  works_safe task before after a b s (inl (fault, refused, _, _)) = inl (fault, refused)
  works_safe task before after a b s (inr (opened, closed, log, ran, _)) = inr (opened, closed, log, ran.0)

  in_safe : (task : Task) (before after : VaultState) (a b : Sight W K) (s : ℕ) → DoesIn links keepers task before after a b s → opens_store (Some task) ≡ true
      → IsKeptIn keepers before after
  in_safe Usage before after a b s does opens = absurd does
  in_safe (Init host) before after a b s does opens = absurd (cc opens)
  in_safe Inetd before after a b s does opens = works_safe Inetd before after a b s does
  in_safe (Serve address) before after a b s does opens = absurd does
  in_safe (AddActor name locked) before after a b s does opens = works_safe (AddActor name locked) before after a b s does
  in_safe (AddPeer host key address relay) before after a b s does opens = works_safe (AddPeer host key address relay) before after a b s does
  in_safe Deliver before after a b s does opens = works_safe Deliver before after a b s does
  in_safe (Export table) before after a b s does opens = works_safe (Export table) before after a b s does
  in_safe Check before after a b s does opens = works_safe Check before after a b s does
  in_safe Migrate before after a b s does opens = absurd does
  in_safe Fill before after a b s does opens = absurd does
  in_safe (Report name kind) before after a b s does opens = absurd does
  in_safe (Demo number) before after a b s does opens = absurd does
  in_safe Play before after a b s does opens = absurd does

-- no task ends with the status of arguments that are not accepted
never_two : (place : Place) (task : Task) → is_status_at place (Some task) 2 ≡ false
never_two OnDisk Usage = refl
never_two OnDisk (Init host) = refl
never_two OnDisk Inetd = refl
never_two OnDisk (Serve address) = refl
never_two OnDisk (AddActor name locked) = refl
never_two OnDisk (AddPeer host key address relay) = refl
never_two OnDisk Deliver = refl
never_two OnDisk (Export table) = refl
never_two OnDisk Check = refl
never_two OnDisk Migrate = refl
never_two OnDisk Fill = refl
never_two OnDisk (Report name kind) = refl
never_two OnDisk (Demo number) = refl
never_two OnDisk Play = refl
never_two InVault Usage = refl
never_two InVault (Init host) = refl
never_two InVault Inetd = refl
never_two InVault (Serve address) = refl
never_two InVault (AddActor name locked) = refl
never_two InVault (AddPeer host key address relay) = refl
never_two InVault Deliver = refl
never_two InVault (Export table) = refl
never_two InVault Check = refl
never_two InVault Migrate = refl
never_two InVault Fill = refl
never_two InVault (Report name kind) = refl
never_two InVault (Demo number) = refl
never_two InVault Play = refl

not_two : (place : Place) (task : Task) (status : ℕ) → is_status_at place (Some task) status ≡ true → status ≡ 2 → ⊥
not_two place task status may is =
    let two = rw is at may in
    let clash : true ≡ false = sym two ∙ never_two place task in
    absurd (cc clash)

-- which is theirs
none_two : (place : Place) → is_status_at place None 2 ≡ true
none_two OnDisk = refl
none_two InVault = refl

-- ---- what follows from what a task does

module _ {S O D C E W L K V P N : Type 0} (k : Kinds S O D C E W L K V P N) where
  -- the status is one of the task
  does_status : (task : Task) (a b : World S O D C E W K V N) (s : ℕ) → Does k OnDisk task a b s → is_status_of (Some task) s ≡ true
  does_status Usage a b s does = print_status (Some Usage) (output k a) (output k b) usage_text s refl refl does
  does_status (Init host) a b s does = init_status k.disks (time k a) a.disk b.disk (output k a) (output k b) host s does.0
  does_status Inetd a b s does = inetd_status (time k a) (medium k a) (medium k b) (scene k a) (scene k b) s does.0
  does_status (Serve address) a b s does =
      doors_status k.doors k.links (time k a) (medium k a) (medium k b) a.benches.items b.benches.items s does.0 address
  does_status (AddActor name locked) a b s does =
      add_actor_status (time k a) (medium k a) (medium k b) (chance k a) (chance k b) (output k a) (output k b) name locked s does
  does_status (AddPeer host key address relay) a b s does =
      add_peer_status (time k a) (medium k a) (medium k b) (output k a) (output k b) host key address relay s does
  does_status Deliver a b s does =
      deliver_status k.links (time k a) (medium k a) (medium k b) a.benches.items b.benches.items (output k a) (output k b) s does
  does_status (Export table) a b s does = export_status table (medium k a) (medium k b) (output k a) (output k b) s does
  does_status Check a b s does = check_status (medium k a) (medium k b) (output k a) (output k b) s does
  does_status Migrate a b s does = migrate_status k.disks (medium k a) (medium k b) a.second b.second (output k a) (output k b) s does
  does_status Fill a b s does = fill_status (medium k a) (medium k b) (vault k a) (vault k b) (output k a) (output k b) s does
  does_status (Report name kind) a b s does = disk_report_status a.disk b.disk (medium k a) (medium k b) name kind (selection k a) (selection k b) (output k a) (output k b) s does
  does_status (Demo number) a b s does = demo_status number (output k a) (output k b) s does
  does_status Play a b s does = play_status (scene k a) (scene k b) s does.0

  -- a store that is opened is kept safe
  does_safe : (task : Task) (a b : World S O D C E W K V N) (s : ℕ) → Does k OnDisk task a b s → opens_store (Some task) ≡ true → IsKeptSafe (medium k a) (medium k b)
  does_safe Usage a b s does opens = absurd (cc opens)
  does_safe (Init host) a b s does opens = absurd (cc opens)
  does_safe Inetd a b s does opens = served_safe (time k a) (medium k a) (medium k b) (scene k a) (scene k b) s does.0
  does_safe (Serve address) a b s does opens =
      doors_safe k.doors k.links (time k a) (medium k a) (medium k b) a.benches.items b.benches.items s does.0
  does_safe (AddActor name locked) a b s does opens =
      added_safe (time k a) (medium k a) (medium k b) (chance k a) (chance k b) (output k a) (output k b) name locked s does
  does_safe (AddPeer host key address relay) a b s does opens =
      peered_safe (time k a) (medium k a) (medium k b) (output k a) (output k b) host key address relay s does
  does_safe Deliver a b s does opens =
      delivered_safe k.links (time k a) (medium k a) (medium k b) a.benches.items b.benches.items (output k a) (output k b) s does
  does_safe (Export table) a b s does opens = exported_safe table (medium k a) (medium k b) (output k a) (output k b) s does
  does_safe Check a b s does opens = checked_safe (medium k a) (medium k b) (output k a) (output k b) s does
  does_safe Migrate a b s does opens = absurd (cc opens)
  does_safe Fill a b s does opens = absurd (cc opens)
  does_safe (Report name kind) a b s does opens = absurd (cc opens)
  does_safe (Demo number) a b s does opens = absurd (cc opens)
  does_safe Play a b s does opens = absurd (cc opens)

  -- it is done, if no call failed and it is possible
  does_complete : (task : Task) (a b : World S O D C E W K V N) (s : ℕ) → Does k OnDisk task a b s
      → (address_of (Some task) ≢ None → DoorsAreCalm k.doors.faults a.benches.items b.benches.items)
      → (fills_vault (Some task) ≡ true → CanBeFilled (vault k a) (vault k b)) → (lays_rows (Some task) ≡ true → IsCalm (selection k a).faults (selection k b).faults)
      → IsComplete task (time k a) (outside k a) (outside k b) s
  does_complete Usage a b s does doors fills lays =
      prints_complete Usage (time k a) (k.disks.shown a.disk) (k.disks.shown b.disk) (k.disks.shown a.second) (k.disks.shown b.second) (chance k a) (chance k b) (fails k a).reads (fails k b).reads
      (output k a) (output k b) usage_text s does
  does_complete (Init host) a b s does doors fills lays =
      init_complete k.disks (time k a) a.disk b.disk (k.disks.shown a.second) (k.disks.shown b.second) (chance k a) (chance k b) (fails k a).reads (fails k b).reads (output k a) (output k b) host s does.0
  does_complete Inetd a b s does doors fills lays =
      inetd_complete (time k a) (medium k a) (medium k b) (k.disks.shown a.second) (k.disks.shown b.second) (chance k a) (chance k b) (scene k a) (scene k b) (fails k a) (fails k b) s does.0 does.2
  does_complete (Serve address) a b s does doors fills lays =
      serve_complete k.doors k.links (time k a) (medium k a) (medium k b) (k.disks.shown a.second) (k.disks.shown b.second) (chance k a) (chance k b) a.benches.items b.benches.items (fails k a) (fails k b) s address
      does.0 (doors (λ none. absurd (cc none)))
  does_complete (AddActor name locked) a b s does doors fills lays =
      add_actor_complete (time k a) (medium k a) (medium k b) (k.disks.shown a.second) (k.disks.shown b.second) (chance k a) (chance k b) (fails k a).reads (fails k b).reads (output k a) (output k b) name locked s does
  does_complete (AddPeer host key address relay) a b s does doors fills lays =
      add_peer_complete (time k a) (medium k a) (medium k b) (k.disks.shown a.second) (k.disks.shown b.second) (chance k a) (chance k b) (fails k a).reads (fails k b).reads (output k a) (output k b)
      host key address relay s does
  does_complete Deliver a b s does doors fills lays =
      deliver_by_complete k.links (time k a) (medium k a) (medium k b) (k.disks.shown a.second) (k.disks.shown b.second) (chance k a) (chance k b) (fails k a).reads (fails k b).reads a.benches.items b.benches.items
      (output k a) (output k b) s does
  does_complete (Export table) a b s does doors fills lays =
      export_complete table (time k a) (medium k a) (medium k b) (k.disks.shown a.second) (k.disks.shown b.second) (chance k a) (chance k b) (fails k a).reads (fails k b).reads (output k a) (output k b) s does
  does_complete Check a b s does doors fills lays =
      check_complete (time k a) (medium k a) (medium k b) (k.disks.shown a.second) (k.disks.shown b.second) (chance k a) (chance k b) (fails k a).reads (fails k b).reads (output k a) (output k b) s does
  does_complete Migrate a b s does doors fills lays =
      migrate_complete k.disks (time k a) (medium k a) (medium k b) a.second b.second (chance k a) (chance k b) (fails k a).reads (fails k b).reads
      (output k a) (output k b) s does
  does_complete Fill a b s does doors fills lays =
      fill_complete (time k a) (medium k a) (medium k b) (k.disks.shown a.second) (k.disks.shown b.second) (chance k a) (chance k b) (fails k a).reads (fails k b).reads (vault k a) (vault k b)
      (output k a) (output k b) s does (fills refl)
  does_complete (Report name kind) a b s does doors fills lays =
      disk_report_complete (time k a) a.disk b.disk (medium k a) (medium k b) (k.disks.shown a.second) (k.disks.shown b.second) (chance k a) (chance k b) (fails k a).reads (fails k b).reads
      (selection k a) (selection k b) (output k a) (output k b) name kind s does (lays refl)
  does_complete (Demo number) a b s does doors fills lays =
      demo_complete (time k a) (k.disks.shown a.disk) (k.disks.shown b.disk) (k.disks.shown a.second) (k.disks.shown b.second) (chance k a) (chance k b) (fails k a).reads (fails k b).reads
      (output k a) (output k b) number s does
  does_complete Play a b s does doors fills lays =
      play_complete (time k a) (k.disks.shown a.disk) (k.disks.shown b.disk) (k.disks.shown a.second) (k.disks.shown b.second) (chance k a) (chance k b)
      (scene k a) (scene k b) (fails k a) (fails k b) s does.0 does.1

  -- a task that has its store there does what it does there
  pub does_at : (place : Place) (task : Task) (a b : World S O D C E W K V N) (s : ℕ) → asks_store task ≡ true → DoesAt k place task a b s → Does k place task a b s
  does_at place Usage a b s may does = absurd (cc may)
  does_at place (Init host) a b s may does = does
  does_at place Inetd a b s may does = does
  does_at place (Serve address) a b s may does = absurd (cc may)
  does_at place (AddActor name locked) a b s may does = does
  does_at place (AddPeer host key address relay) a b s may does = does
  does_at place Deliver a b s may does = does
  does_at place (Export table) a b s may does = does
  does_at place Check a b s may does = does
  does_at place Migrate a b s may does = absurd (cc may)
  does_at place Fill a b s may does = absurd (cc may)
  does_at place (Report name kind) a b s may does = absurd (cc may)
  does_at place (Demo number) a b s may does = absurd (cc may)
  does_at place Play a b s may does = absurd (cc may)

  -- each of these tasks is done at one of the two places
  pub moves_at : (is_a_table : Bool) (a b : World S O D C E W K V N) (s : ℕ) → (is_a_table ≡ true → MigratesAt k InVault a b s) → (is_a_table ≡ false → MigratesAt k OnDisk a b s)
      → Does k (place_if is_a_table) Migrate a b s
  moves_at true a b s in_it on_it = in_it refl
  moves_at false a b s in_it on_it = on_it refl

  pub reports_at : (is_a_table : Bool) (name kind : List ℕ) (a b : World S O D C E W K V N) (s : ℕ) → (is_a_table ≡ true → ReportsAt k InVault name kind a b s)
      → (is_a_table ≡ false → ReportsAt k OnDisk name kind a b s) → Does k (place_if is_a_table) (Report name kind) a b s
  reports_at true name kind a b s in_it on_it = in_it refl
  reports_at false name kind a b s in_it on_it = on_it refl

  -- it leaves what the command that does it leaves
  pub leaves_on_disk : (task : Task) (a b : World S O D C E W K V N) → asks_store task ≡ true
      → LeavesRest (Some task) a.connection b.connection a.entropy b.entropy a.benches b.benches → b.second ≡ a.second → b.vault ≡ a.vault → b.selection ≡ a.selection → LeavesOthers OnDisk (Some task) a b
  leaves_on_disk task a b asks rest second vault selected = record {
    input = λ other _. rest.input other;
    clock = rest.clock;
    disk = λ none. let clash : true ≡ false = sym (names_one task asks) ∙ none in absurd (cc clash);
    second = λ _. second;
    entropy = rest.entropy;
    benches = rest.benches;
    vault = λ _. vault;
    selection = λ _. selected;
  }

  pub leaves_in_vault : (task : Task) (a b : World S O D C E W K V N) → asks_store task ≡ true
      → LeavesRest (Some task) a.connection b.connection a.entropy b.entropy a.benches b.benches → b.disk ≡ a.disk → b.second ≡ a.second → b.selection ≡ a.selection → LeavesOthers InVault (Some task) a b
  leaves_in_vault task a b asks rest disk second selected = record {
    input = λ other _. rest.input other;
    clock = rest.clock;
    disk = λ _. disk;
    second = λ _. second;
    entropy = rest.entropy;
    benches = rest.benches;
    vault = λ none. let clash : true ≡ false = sym (names_one task asks) ∙ none in absurd (cc clash);
    selection = λ _. selected;
  }

  -- the status is one of the task, wherever its store is
  at_status : (place : Place) (task : Task) (a b : World S O D C E W K V N) (s : ℕ) → Does k place task a b s → is_status_at place (Some task) s ≡ true
  at_status OnDisk task a b s does = does_status task a b s does
  at_status InVault Usage a b s does = does_status Usage a b s does
  at_status InVault (Init host) a b s does = in_status k.links k.keepers (Init host) (vault k a) (vault k b) (sight k a) (sight k b) s does
  at_status InVault Inetd a b s does = in_status k.links k.keepers Inetd (vault k a) (vault k b) (sight k a) (sight k b) s does
  at_status InVault (Serve address) a b s does = does_status (Serve address) a b s does
  at_status InVault (AddActor name locked) a b s does =
      in_status k.links k.keepers (AddActor name locked) (vault k a) (vault k b) (sight k a) (sight k b) s does
  at_status InVault (AddPeer host key address relay) a b s does =
      in_status k.links k.keepers (AddPeer host key address relay) (vault k a) (vault k b) (sight k a) (sight k b) s does
  at_status InVault Deliver a b s does = in_status k.links k.keepers Deliver (vault k a) (vault k b) (sight k a) (sight k b) s does
  at_status InVault (Export table) a b s does = in_status k.links k.keepers (Export table) (vault k a) (vault k b) (sight k a) (sight k b) s does
  at_status InVault Check a b s does = in_status k.links k.keepers Check (vault k a) (vault k b) (sight k a) (sight k b) s does
  at_status InVault Migrate a b s does = out_status k.disks (vault k a) (vault k b) a.second b.second (output k a) (output k b) s does
  at_status InVault Fill a b s does = does_status Fill a b s does
  at_status InVault (Report name kind) a b s does = vault_report_status k.keepers a.vault b.vault (vault k a) (vault k b) name kind (selection k a) (selection k b) (output k a) (output k b) s does
  at_status InVault (Demo number) a b s does = does_status (Demo number) a b s does
  at_status InVault Play a b s does = does_status Play a b s does

  -- a store that is opened is kept safe, wherever it is
  at_safe : (place : Place) (task : Task) (a b : World S O D C E W K V N) (s : ℕ) → (place ≡ InVault → may_be_in_vault task ≡ true) → Does k place task a b s → opens_store (Some task) ≡ true
      → IsSafe k place a b
  at_safe OnDisk task a b s may does opens = does_safe task a b s does opens
  at_safe InVault Usage a b s may does opens = absurd (cc opens)
  at_safe InVault (Init host) a b s may does opens = absurd (cc opens)
  at_safe InVault Inetd a b s may does opens = in_safe k.links k.keepers Inetd (vault k a) (vault k b) (sight k a) (sight k b) s does opens
  at_safe InVault (Serve address) a b s may does opens = let clash = may refl in absurd (cc clash)
  at_safe InVault (AddActor name locked) a b s may does opens =
      in_safe k.links k.keepers (AddActor name locked) (vault k a) (vault k b) (sight k a) (sight k b) s does opens
  at_safe InVault (AddPeer host key address relay) a b s may does opens =
      in_safe k.links k.keepers (AddPeer host key address relay) (vault k a) (vault k b) (sight k a) (sight k b) s does opens
  at_safe InVault Deliver a b s may does opens = in_safe k.links k.keepers Deliver (vault k a) (vault k b) (sight k a) (sight k b) s does opens
  at_safe InVault (Export table) a b s may does opens =
      in_safe k.links k.keepers (Export table) (vault k a) (vault k b) (sight k a) (sight k b) s does opens
  at_safe InVault Check a b s may does opens = in_safe k.links k.keepers Check (vault k a) (vault k b) (sight k a) (sight k b) s does opens
  at_safe InVault Migrate a b s may does opens = absurd (cc opens)
  at_safe InVault Fill a b s may does opens = absurd (cc opens)
  at_safe InVault (Report name kind) a b s may does opens = absurd (cc opens)
  at_safe InVault (Demo number) a b s may does opens = absurd (cc opens)
  at_safe InVault Play a b s may does opens = absurd (cc opens)

  -- it is done, wherever its store is
  in_vault_complete : (task : Task) (a b : World S O D C E W K V N) (s : ℕ) → DoesIn k.links k.keepers task (vault k a) (vault k b) (sight k a) (sight k b) s
      → IsCompleteAt k InVault task a b s
  in_vault_complete task a b s does =
      in_complete k.links k.keepers task (vault k a) (vault k b) (outside k a) (outside k b) (sight k a) (sight k b) s refl refl refl refl does

  at_complete : (place : Place) (task : Task) (a b : World S O D C E W K V N) (s : ℕ) → Does k place task a b s
      → (address_of (Some task) ≢ None → DoorsAreCalm k.doors.faults a.benches.items b.benches.items) → (fills_vault (Some task) ≡ true → CanBeFilled (vault k a) (vault k b))
      → (lays_rows (Some task) ≡ true → IsCalm (selection k a).faults (selection k b).faults) → IsCompleteAt k place task a b s
  at_complete OnDisk task a b s does doors fills lays = does_complete task a b s does doors fills lays
  at_complete InVault Usage a b s does doors fills lays = λ calm all possible. does_complete Usage a b s does doors fills lays all possible
  at_complete InVault (Init host) a b s does doors fills lays = in_vault_complete (Init host) a b s does
  at_complete InVault Inetd a b s does doors fills lays = in_vault_complete Inetd a b s does
  at_complete InVault (Serve address) a b s does doors fills lays = λ calm all possible. absurd possible
  at_complete InVault (AddActor name locked) a b s does doors fills lays = in_vault_complete (AddActor name locked) a b s does
  at_complete InVault (AddPeer host key address relay) a b s does doors fills lays = in_vault_complete (AddPeer host key address relay) a b s does
  at_complete InVault Deliver a b s does doors fills lays = in_vault_complete Deliver a b s does
  at_complete InVault (Export table) a b s does doors fills lays = in_vault_complete (Export table) a b s does
  at_complete InVault Check a b s does doors fills lays = in_vault_complete Check a b s does
  at_complete InVault Migrate a b s does doors fills lays =
      out_complete k.disks k.keepers (time k a) (vault k a) (vault k b) a.second b.second (outside k a) (outside k b) (output k a) (output k b) s refl refl refl refl does
  at_complete InVault Fill a b s does doors fills lays = λ calm all possible. absurd possible
  at_complete InVault (Report name kind) a b s does doors fills lays =
      vault_report_complete k.keepers (time k a) a.vault b.vault (vault k a) (vault k b) (outside k a) (outside k b) (selection k a) (selection k b) (output k a) (output k b) name kind s
      refl refl does (lays refl)
  at_complete InVault (Demo number) a b s does doors fills lays = λ calm all possible. does_complete (Demo number) a b s does doors fills lays all possible
  at_complete InVault Play a b s does doors fills lays = λ calm all possible. does_complete Play a b s does doors fills lays all possible

  -- ---- the headline

  -- a run that was asked for this task
  pub runs : (place : Place) (task : Task) (asked : Option Task) (a b : World S O D C E W K V N) (s : ℕ) → (place ≡ InVault → may_be_in_vault task ≡ true) → Some task ≡ asked
      → Does k place task a b s → LeavesOthers place (Some task) a b → Runs k place asked a b s
  runs place task asked a b s may is does others = subst (λ (t : Option Task). Runs k place t a b s) is (record {
    does = does;
    statuses = ends;
    accepted = (λ two. absurd (not_two place task s ends two), λ none. absurd (cc none));
    refused = λ two. absurd (not_two place task s ends two);
    safe = at_safe place task a b s may does;
    others = others;
    complete = at_complete place task a b s does;
  })
    where
      ends : is_status_at place (Some task) s ≡ true
      ends = at_status place task a b s does

  -- the same, with the place that the arguments name
  pub runs_at : (is_a_table : Bool) (arguments : List (List ℕ)) (task : Task) (a b : World S O D C E W K V N) (s : ℕ) → is_a_table ≡ names_table arguments → Some task ≡ task_in arguments
      → Does k (place_if is_a_table) task a b s → LeavesOthers (place_if is_a_table) (Some task) a b → Runs k (place_in arguments) (task_in arguments) a b s
  runs_at is_a_table arguments task a b s is asked does others =
      subst (λ (t : Bool). Runs k (place_if t) (task_in arguments) a b s) is
      (runs (place_if is_a_table) task (task_in arguments) a b s (λ in_vault. may_be_table arguments task asked (sym is ∙ of_place is_a_table in_vault)) asked does others)

  -- and one whose arguments were not accepted
  pub refuses : (place : Place) (asked : Option Task) (a b : World S O D C E W K V N) (s : ℕ) → None ≡ asked → Reports (output k a) (output k b) 2 usage_text s
      → LeavesOthers place None a b → Runs k place asked a b s
  refuses place asked a b s is told others = subst (λ (t : Option Task). Runs k place t a b s) is (record {
    does = tt;
    statuses = rw told.0 (none_two place);
    accepted = (λ _. refl, λ _. told.0);
    refused = λ _. told.1;
    safe = λ opens. absurd (cc opens);
    others = others;
    complete = tt;
  })
