-- If no call fails, and what the task asks for is possible, nothing keeps a run from being done.
use Rattle.std.proofs.Common.{◌≡◌, ◌<◌, ℕ, Bool, true, false, List, [], ◌∷◌, length, min, slice_index_or, Option, Some, None, arith, inl, inr, refl, sym, ap, subst, ◌∙◌}
use Rattle.fedi_address.specs.Hosts.{IsHost}
use Rattle.fedi_address.specs.Names.{is_name}
use Rattle.fedi_entry.specs.Codes.{code_of}
use Rattle.fedi_outside.proofs.ImageSteps.{of_some}
use Rattle.fedi_log.specs.Keeping.{State}
use Rattle.fedi_log.specs.Log.{Log}
use Rattle.fedi_mac.specs.Keys.{key_of}
use Rattle.fedi_objects.specs.declared.entry.Entry.{Entry}
use Rattle.fedi_objects.specs.declared.entry.Entry.TheVariants.{Tried}
use Rattle.fedi_outside.specs.Causes.{Rose, next_count}
use Rattle.fedi_outside.specs.Disks.{DiskState}
use Rattle.fedi_outside.specs.Keepers.{HasRoom, IsFull, KeeperState}
use Rattle.fedi_outside.specs.declared.disks.Disk.{Ghosts as DiskGhosts}
use Rattle.fedi_outside.specs.declared.doors.Bench.{Bench}
use Rattle.fedi_outside.specs.declared.doors.Door.{Ghosts as DoorGhosts}
use Rattle.fedi_outside.specs.declared.links.Link.{Ghosts as LinkGhosts}
use Rattle.fedi_hall.specs.declared.serving.ServeEnd.TheVariants as serves
use Rattle.fedi_delivery.specs.Exchanges.{Told}
use Rattle.fedi_queue.specs.Due.{due_in}
use Rattle.fedi_startup.proofs.OneAnswer.{one_history, store_byte, store_none, store_older, store_record}
use Rattle.fedi_startup.specs.Stores.{ComesBack, IsOpened, IsStoreOf, end_of}
use Rattle.fedi_startup.specs.Surviving.{growth, room}
use Rattle.fedi_startup.specs.declared.faults.MakeFault.TheVariants as makes
use Rattle.fedi_startup.specs.declared.faults.StoreFault.{StoreFault}
use Rattle.fedi_startup.specs.declared.faults.StoreFault.TheVariants as faults
use Rattle.fedi_logged.specs.Conversations.{IsNow, Setting}
use Rattle.fedi_logged.specs.Turning.{setting_by}
use Rattle.fedi_logged.specs.Endings.{BreaksOff, Faults, Output, Scene, faults_of}
use Rattle.fedi_logged.specs.declared.sessions.SessionEnd.TheVariants as sessions
use Rattle.fedi_town.specs.declared.command_fault.CommandFault.{CommandFault}
use Rattle.fedi_town.specs.declared.command_fault.CommandFault.TheVariants as commands
use Rattle.fedi_town.specs.Histories.{town}
use Rattle.fedi_town.specs.Legal.{broken_command, is_taken_host}
use Rattle.fedi_town.specs.Queues.{Delivery}
use Rattle.fedi_program.specs.Commands.{AddActor, AddPeer, Check, Demo, Play, Deliver, Export, Inetd, Init, Serve, Task}
use Rattle.fedi_program.specs.Demonstrating.{Demonstrates}
use Rattle.fedi_program.specs.Complete.{DoorsAreCalm, HasRoomForEach, HasStore, IsCalm, IsComplete, IsDone, IsFree, CanBeKept, outside_of}
use Rattle.fedi_log.specs.Claims.{IsFirst}
use Rattle.fedi_logged.specs.Attempts.{Exchange}
use Rattle.fedi_program.specs.Delivering.{AreFirst, DeliversBy, DeliversStore, EndsTrying, Trial, TriesDue, TriesEach, entry_of}
use Rattle.fedi_program.specs.Endings.{HasCauses, HoldsSession, Prints}
use Rattle.fedi_program.specs.Members.{Draws, EndsWith, IsSettled, MakesMember, key_line, member_entry}
use Rattle.fedi_program.specs.Peers.{MakesPeer, peer_entry, peer_line}
use Rattle.fedi_program.specs.Playing.{PlaysScript}
use Rattle.fedi_program.specs.Serving.{ServesDoors}
use Rattle.fedi_program.specs.Stores.{AddsMember, AddsPeer, ChecksStore, ExportsStore, IsRefused, IsServed, MakesStore, ServesStore, ReportsStore, status_by}
use Rattle.fedi_program.specs.declared.commands.Table.{Table}
use Rattle.fedi_program.specs.Seen.{Chance, Medium, tells}

-- ---- counts

-- a fault that was counted
pub rises : (before now : ℕ) → now ≡ next_count before → Rose before now
rises before now is = rw is (omega arith)

-- and one more
rises_again : (before middle now : ℕ) → middle ≡ next_count before → now ≡ next_count middle → Rose before now
rises_again before middle now first is = rw (is, first) (omega arith)

-- a write that failed was counted
pub broke : (first now : Output) (written text : List ℕ) → BreaksOff first now written text → Rose first.faults now.faults
broke first now written text broken = rises first.faults now.faults broken.cause

-- a keeper that failed, and was asked to settle
settled_rose : (before : KeeperState) (refused after : State) → refused.keeper.faults ≡ next_count before.faults → IsSettled refused after
    → Rose before.faults after.keeper.faults
settled_rose before refused after failed (still, inl settled) =
    rises before.faults after.keeper.faults (ap (λ (k : KeeperState). k.faults) settled ∙ failed)
settled_rose before refused after failed (still, inr again) =
    rises_again before.faults refused.keeper.faults after.keeper.faults failed (ap (λ (k : KeeperState). k.faults) again)

-- a record has room or not
pub no_room : (room : ℕ → ℕ) (end size : ℕ) → HasRoom room end size → IsFull room end size → ⊥
no_room room end size fits full = omega (arith, fits, full)

-- ---- a store is opened

-- what is opened over a disk that has a store is that store
found : (disk : DiskState) (history : List Entry) (s : State) → HasStore disk history → IsOpened disk s → s.history ≡ history
found disk history s (bytes, told, store) opens = one_history s.history history bytes (of_some disk.reads (IsStoreOf s.history) opens.stored bytes told) store

found_end : (disk : DiskState) (history : List Entry) (s : State) → HasStore disk history → IsOpened disk s → s.keeper.end ≡ end_of history
found_end disk history s has opens =
    of_some disk.reads (λ _. s.keeper.end ≡ end_of s.history) opens.end has.0 has.1 ∙ ap end_of (found disk history s has opens)

-- its keeper counted no fault if the disk counted none
keeper_calm : (before after : Medium) (opened closed : State) (log : Log) → IsServed before after opened closed log
    → IsCalm before.shown.faults after.shown.faults → IsCalm opened.keeper.faults closed.keeper.faults
keeper_calm before after opened closed log served calm rose =
    calm (subst (λ (n : ℕ). Rose n after.shown.faults) served.opens.faults (subst (λ (n : ℕ). Rose opened.keeper.faults n) served.closes.faults rose))

-- a store exists and was not opened: memory ran out
not_opened : (fault : StoreFault) (before after : DiskState) (history : List Entry) → HasStore before history → IsCalm before.faults after.faults
    → ComesBack fault before after → fault ≡ faults.Memory
not_opened faults.NotAStore before after history (bytes, told, store) calm back =
    absurd (store_none history bytes store (of_some before.reads _ back.why bytes told))
not_opened faults.OldFormat before after history (bytes, told, store) calm back =
    absurd (store_older history bytes store (of_some before.reads _ back.why bytes told))
not_opened (faults.DamagedByte place) before after history (bytes, told, store) calm back =
    absurd (store_byte history place bytes store (of_some before.reads _ back.why bytes told))
not_opened (faults.DamagedRecord place) before after history (bytes, told, store) calm back =
    absurd (store_record history place bytes store (of_some before.reads _ back.why bytes told))
not_opened faults.Failed before after history has calm back = absurd (calm (rises before.faults after.faults back.faults))
not_opened faults.Memory before after history has calm back = refl

-- and this is its status
by_status : (task : Task) (fault : StoreFault) (before after : Medium) (history : List Entry) (status : ℕ) → HasStore before.shown history
    → IsCalm before.shown.faults after.shown.faults → IsRefused before after fault → status ≡ status_by fault → IsDone task status
by_status task fault before after history status has calm refused is =
    inr (inl (is ∙ ap status_by (not_opened fault before.shown after.shown history has calm refused.back)))

-- also if it is reported
pub by_told : (task : Task) (fault : StoreFault) (before after : Medium) (history : List Entry) (first now : Output) (status : ℕ) → HasStore before.shown history
    → IsCalm before.shown.faults after.shown.faults → IsRefused before after fault → ReportsStore fault first now status → IsDone task status
by_told task fault before after history first now status has calm refused told =
    let memory = not_opened fault before.shown after.shown history has calm refused.back in
    inr (inl ((subst (λ (f : StoreFault). ReportsStore f first now status) memory told).0))

-- ---- a text is printed

pub printed : (task : Task) (first now : Output) (text : List ℕ) (status : ℕ) → IsCalm first.faults now.faults → Prints first now text status → IsDone task status
printed task first now text status calm (inl done) = inl done.0
printed task first now text status calm (inr broken) = absurd (calm (broke first now [] text broken.1))

-- ---- an entry is kept

-- a command that breaks no rule breaks none of these
no_rule : (history : List Entry) (e : Entry) (fault : CommandFault) → broken_command (town history) e ≡ None → broken_command (town history) e ≡ Some fault → ⊥
no_rule history e fault none some = let clash : ◌≡◌ {A = Option CommandFault} None (Some fault) = sym none ∙ some in cc clash

kept : (growth room : ℕ → ℕ) (task : Task) (before after : State) (first now : Output) (e : Entry) (line : List ℕ) (status : ℕ)
    → broken_command (town before.history) e ≡ None → HasRoom room before.keeper.end (length (code_of e))
    → IsCalm before.keeper.faults after.keeper.faults → IsCalm first.faults now.faults
    → EndsWith growth room before after first now e line status → IsDone task status
kept growth room task before after first now e line status unbroken fits calm writes (inr made) = printed task first now line status writes made.2
kept growth room task before after first now e line status unbroken fits calm writes (inl (commands.NameTaken, unmade, told)) =
    absurd (no_rule before.history e commands.NameTaken unbroken unmade.2.0)
kept growth room task before after first now e line status unbroken fits calm writes (inl (commands.KeyTaken, unmade, told)) =
    absurd (no_rule before.history e commands.KeyTaken unbroken unmade.2.0)
kept growth room task before after first now e line status unbroken fits calm writes (inl (commands.HostTaken, unmade, told)) =
    absurd (no_rule before.history e commands.HostTaken unbroken unmade.2.0)
kept growth room task before after first now e line status unbroken fits calm writes (inl (commands.BadAddress, unmade, told)) =
    absurd (no_rule before.history e commands.BadAddress unbroken unmade.2.0)
kept growth room task before after first now e line status unbroken fits calm writes (inl (commands.Full, unmade, told)) =
    absurd (no_room room before.keeper.end (length (code_of e)) fits unmade.2.1.0)
kept growth room task before after first now e line status unbroken fits calm writes (inl (commands.KeeperFault, unmade, told)) =
    absurd (calm (settled_rose before.keeper unmade.0 after unmade.2.1.1.faults unmade.3))
kept growth room task before after first now e line status unbroken fits calm writes (inl (commands.Memory, unmade, told)) = inr (inl told.0)

-- what may be kept after the history of a store may be kept after that of the opening
can_keep : (disk : DiskState) (history : List Entry) (opened : State) (e : Entry) → HasStore disk history → IsOpened disk opened → CanBeKept history e
    → (broken_command (town opened.history) e ≡ None) × HasRoom room opened.keeper.end (length (code_of e))
can_keep disk history opened e has opens (unbroken, fits) = (
  subst (λ (h : List Entry). broken_command (town h) e ≡ None) (sym (found disk history opened has opens)) unbroken,
  subst (λ (end : ℕ). HasRoom room end (length (code_of e))) (sym (found_end disk history opened has opens)) fits,
)

-- a member is made, over whatever store
pub member_done : (growth room : ℕ → ℕ) (told : Option ℕ) (chance left : Chance) (opened closed : State) (first now : Output) (name : List ℕ) (locked : Bool) (status : ℕ)
    → MakesMember growth room told chance left opened closed first now name locked status
    → IsCalm opened.keeper.faults closed.keeper.faults → IsCalm chance.faults left.faults → IsCalm first.faults now.faults → is_name name ≡ true
    → ((key : List ℕ) (moment : ℕ) → Draws chance left key → IsNow told moment
    → (broken_command (town opened.history) (member_entry name key locked moment) ≡ None) × HasRoom room opened.keeper.end (length (code_of (member_entry name key locked moment))))
    → IsDone (AddActor name locked) status
member_done growth room told chance left opened closed first now name locked status (inl undrawn) calm draws writes named keepable =
    absurd (draws (rises chance.faults left.faults undrawn.1.cause))
member_done growth room told chance left opened closed first now name locked status (inr (key, moment, drawn, is, inl bad)) calm draws writes named keepable =
    let clash : true ≡ false = sym named ∙ bad.0 in absurd (cc clash)
member_done growth room told chance left opened closed first now name locked status (inr (key, moment, drawn, is, inr (_, ends))) calm draws writes named keepable =
    let may = keepable key moment drawn is in
    kept growth room (AddActor name locked) opened closed first now (member_entry name key locked moment) (key_line name key) status may.0 may.1 calm writes ends

added_done : (told : Option ℕ) (before after : Medium) (chance left : Chance) (first now : Output) (name : List ℕ) (locked : Bool) (status : ℕ)
    → AddsMember told before after chance left first now name locked status
    → IsCalm before.shown.faults after.shown.faults → IsCalm chance.faults left.faults → IsCalm first.faults now.faults
    → (history : List Entry) → HasStore before.shown history → is_name name ≡ true
    → ((key : List ℕ) (moment : ℕ) → Draws chance left key → IsNow told moment → CanBeKept history (member_entry name key locked moment))
    → IsDone (AddActor name locked) status
added_done told before after chance left first now name locked status (inl (fault, refused, _, tells)) calm draws writes history has named keepable =
    by_told (AddActor name locked) fault before after history first now status has calm refused tells
added_done told before after chance left first now name locked status (inr (opened, closed, run, makes)) calm draws writes history has named keepable =
    member_done growth room told chance left opened closed first now name locked status makes (keeper_calm before after opened closed run.0 run.1.0 calm) draws writes named
    (λ key moment drawn is. can_keep before.shown history opened (member_entry name key locked moment) has run.1.0.opens (keepable key moment drawn is))

-- there is a moment
some_moment : (told : Option ℕ) → (moment : ℕ) × IsNow told moment
some_moment None = (0, omega arith)
some_moment (Some told) = (min told 253402300799, refl)

-- a host that is taken breaks a rule
not_taken : (history : List Entry) (host key address : List ℕ) (relay : Bool) (moment : ℕ) → broken_command (town history) (peer_entry host key address relay moment) ≡ None
    → is_taken_host (town history) host ≡ true → ⊥
not_taken history host key address relay moment unbroken taken =
    let none = rw taken at unbroken in
    let clash : ◌≡◌ {A = Option CommandFault} (Some commands.HostTaken) None = none in cc clash

-- a peer is made, over whatever store
pub peer_done : (growth room : ℕ → ℕ) (told : Option ℕ) (opened closed : State) (first now : Output) (host key address : List ℕ) (relay : Bool) (status : ℕ)
    → MakesPeer growth room told opened closed first now host key address relay status → IsCalm opened.keeper.faults closed.keeper.faults → IsCalm first.faults now.faults → IsHost host
    → (secret : List ℕ) → key_of key ≡ Some secret
    → ((moment : ℕ) → IsNow told moment
    → (broken_command (town opened.history) (peer_entry host secret address relay moment) ≡ None) × HasRoom room opened.keeper.end (length (code_of (peer_entry host secret address relay moment))))
    → IsDone (AddPeer host key address relay) status
peer_done growth room told opened closed first now host key address relay status (inl memory) calm writes host_is secret key_is keepable = inr (inl memory.0)
peer_done growth room told opened closed first now host key address relay status (inr (inl bad)) calm writes host_is secret key_is keepable = absurd (bad.0 host_is)
peer_done growth room told opened closed first now host key address relay status (inr (inr (inl taken))) calm writes host_is secret key_is keepable =
    let at = some_moment told in
    absurd (not_taken opened.history host secret address relay at.0 (keepable at.0 at.1).0 taken.1)
peer_done growth room told opened closed first now host key address relay status (inr (inr (inr (inl bad)))) calm writes host_is secret key_is keepable =
    let clash : ◌≡◌ {A = Option (List ℕ)} (Some secret) None = sym key_is ∙ bad.2 in absurd (cc clash)
peer_done growth room told opened closed first now host key address relay status (inr (inr (inr (inr (_, untaken, other, moment, other_is, is, ends))))) calm writes host_is secret key_is keepable =
    let same : ◌≡◌ {A = Option (List ℕ)} (Some secret) (Some other) = sym key_is ∙ other_is in
    let secrets : secret ≡ other = cc same in
    let may = subst (λ (k : List ℕ). (broken_command (town opened.history) (peer_entry host k address relay moment) ≡ None)
    × HasRoom room opened.keeper.end (length (code_of (peer_entry host k address relay moment)))) secrets (keepable moment is) in
    kept growth room (AddPeer host key address relay) opened closed first now (peer_entry host other address relay moment) (peer_line host) status may.0 may.1 calm writes ends

peered_done : (told : Option ℕ) (before after : Medium) (first now : Output) (host key address : List ℕ) (relay : Bool) (status : ℕ)
    → AddsPeer told before after first now host key address relay status
    → IsCalm before.shown.faults after.shown.faults → IsCalm first.faults now.faults
    → (history : List Entry) → HasStore before.shown history → IsHost host → (secret : List ℕ) → key_of key ≡ Some secret
    → ((moment : ℕ) → IsNow told moment → CanBeKept history (peer_entry host secret address relay moment))
    → IsDone (AddPeer host key address relay) status
peered_done told before after first now host key address relay status (inl (fault, refused, tells)) calm writes history has host_is secret key_is keepable =
    by_told (AddPeer host key address relay) fault before after history first now status has calm refused tells
peered_done told before after first now host key address relay status (inr (opened, closed, run, makes)) calm writes history has host_is secret key_is keepable =
    peer_done growth room told opened closed first now host key address relay status makes (keeper_calm before after opened closed run.0 run.1.0 calm) writes host_is secret key_is
    (λ moment is. can_keep before.shown history opened (peer_entry host secret address relay moment) has run.1.0.opens (keepable moment is))

-- ---- what is due is tried

-- after these attempts there is still room for the others, and no fault was counted
tried_room : (growth room : ℕ → ℕ) (moment : ℕ) (before last : State) (due left : List Delivery) (tried : List Trial) → TriesEach growth room moment before tried last → AreFirst due tried left
    → HasRoomForEach growth room moment before.keeper.end due → HasRoomForEach growth room moment last.keeper.end left × (last.keeper.faults ≡ before.keeper.faults)
tried_room growth room moment before last due left [] same first fits = rw (same, ← first) (fits, refl)
tried_room growth room moment before last [] left (x ∷ xs) each first fits = absurd first
tried_room growth room moment before last (d ∷ due) left (x ∷ xs) (next, attempt, kept, each) (to, first) fits =
    let fits_next = (fits x.activity x.came to.0).1 in
    let rest = tried_room growth room moment next last due left xs each first (rw (kept.keeper.end, ← to.1) fits_next) in
    (rest.0, rest.1 ∙ kept.keeper.faults)

-- the first of those that are left has room
first_room : (growth room : ℕ → ℕ) (moment end : ℕ) (left : List Delivery) (x : Trial) → IsFirst x.activity x.recipient left → HasRoomForEach growth room moment end left
    → HasRoom room end (length (code_of (entry_of moment x)))
first_room growth room moment end [] x first fits = absurd first
first_room growth room moment end (d ∷ left) x to fits = subst (λ (r : List ℕ). HasRoom room end (length (code_of (Tried x.activity r x.came moment)))) to.1 (fits x.activity x.came to.0).0

tried_done : (growth room : ℕ → ℕ) (moment : ℕ) (last after : State) (tried : List Trial) (left : List Delivery) (beyond : List Exchange) (first now : Output) (status : ℕ)
    → HasRoomForEach growth room moment last.keeper.end left → IsCalm last.keeper.faults after.keeper.faults → IsCalm first.faults now.faults
    → EndsTrying room moment last after tried left beyond first now status → IsDone Deliver status
tried_done growth room moment last after tried left beyond first now status fits calm writes (inl (_, _, _, inl told)) = inl told.0
tried_done growth room moment last after tried left beyond first now status fits calm writes (inl (_, _, _, inr broken)) = absurd (writes (broke first now _ _ broken.1))
tried_done growth room moment last after tried left beyond first now status fits calm writes (inr (inl (_, _, lost))) =
    absurd (writes (broke first now _ _ lost.4))
tried_done growth room moment last after tried left beyond first now status fits calm writes (inr (inr (inl (x, is_first, _, _, inl (_, _, full, _))))) =
    absurd (no_room room last.keeper.end (length (code_of (entry_of moment x))) (first_room growth room moment last.keeper.end left x is_first fits) full.0)
tried_done growth room moment last after tried left beyond first now status fits calm writes (inr (inr (inl (x, is_first, _, _, inr (_, refused, _, failed, settled, _))))) =
    absurd (calm (settled_rose last.keeper refused after failed.1.faults settled))
tried_done growth room moment last after tried left beyond first now status fits calm writes (inr (inr (inr memory))) = inr (inl memory.0)

-- what is due is tried, over whatever store
pub due_done : (growth room : ℕ → ℕ) (told : Option ℕ) (opened closed : State) (asked heard : Told) (first now : Output) (status : ℕ)
    → TriesDue growth room told opened closed asked heard first now status → IsCalm opened.keeper.faults closed.keeper.faults → IsCalm first.faults now.faults
    → ((moment : ℕ) → IsNow told moment → HasRoomForEach growth room moment opened.keeper.end (due_in (town opened.history) moment)) → IsDone Deliver status
due_done growth room told opened closed asked heard first now status tries calm writes fits =
    let left = tried_room growth room tries.moment opened tries.last (due_in (town opened.history) tries.moment) tries.left tries.tried tries.each tries.due (fits tries.moment tries.is_now) in
    tried_done growth room tries.moment tries.last closed tries.tried tries.left tries.beyond first now status left.0
    (subst (λ (n : ℕ). IsCalm n closed.keeper.faults) (sym left.1) calm) writes tries.ends

delivered_done : (told : Option ℕ) (before after : Medium) (asked heard : Told) (first now : Output) (status : ℕ)
    → DeliversStore told before after asked heard first now status → IsCalm before.shown.faults after.shown.faults → IsCalm first.faults now.faults
    → (history : List Entry) → HasStore before.shown history
    → ((moment : ℕ) → IsNow told moment → HasRoomForEach growth room moment (end_of history) (due_in (town history) moment)) → IsDone Deliver status
delivered_done told before after asked heard first now status (inl (fault, refused, _, tells)) calm writes history has fits =
    by_told Deliver fault before after history first now status has calm refused tells
delivered_done told before after asked heard first now status (inr (opened, closed, run, tries)) calm writes history has fits =
    due_done growth room told opened closed asked heard first now status tries (keeper_calm before after opened closed run.0 run.1.0 calm) writes
    (λ moment is. subst (λ (h : List Entry). HasRoomForEach growth room moment opened.keeper.end (due_in (town h) moment)) (sym (found before.shown history opened has run.1.0.opens))
    (subst (λ (end : ℕ). HasRoomForEach growth room moment end (due_in (town history) moment)) (sym (found_end before.shown history opened has run.1.0.opens)) (fits moment is)))

-- ---- others

-- a session was held, over whatever store
pub session_done : (w : Setting) (opened : State) (log : Log) (first now : Scene) (was is : Faults) (status : ℕ) → HoldsSession w opened log first now status
    → HasCauses was is status → IsCalm was.reads is.reads → IsCalm was.writes is.writes → IsDone Inetd status
session_done w opened log first now was is status (inl (sessions.End, status_is, ran)) causes reads writes = inl status_is
session_done w opened log first now was is status (inl (sessions.Closed, status_is, ran)) causes reads writes = inl status_is
session_done w opened log first now was is status (inl (sessions.CutShort, status_is, ran)) causes reads writes = inr (inr (inl (refl, status_is)))
session_done w opened log first now was is status (inl (sessions.ReadFault, status_is, ran)) causes reads writes =
    absurd (reads (rises was.reads is.reads (rw status_is at causes.reads)))
session_done w opened log first now was is status (inl (sessions.WriteFault, status_is, ran)) causes reads writes =
    absurd (writes (rises was.writes is.writes (causes.failed status_is)))
session_done w opened log first now was is status (inl (sessions.Memory, status_is, ran)) causes reads writes = inr (inl status_is)
session_done w opened log first now was is status (inr unserved) causes reads writes = inr (inl unserved.0)

play_done : (first now : Scene) (was is : Faults) (status : ℕ) → PlaysScript first now status → HasCauses was is status
    → IsCalm was.reads is.reads → IsCalm was.writes is.writes → IsDone Play status
play_done first now was is status (inl (inl failed, _)) causes reads writes =
    absurd (reads (rises was.reads is.reads (rw failed at causes.reads)))
play_done first now was is status (inl (inr memory, _)) causes reads writes = inr (inl memory)
play_done first now was is status (inr (text, false, _, inl done)) causes reads writes = inl done.0
play_done first now was is status (inr (text, false, _, inr broken)) causes reads writes =
    absurd (writes (rises was.writes is.writes (causes.failed broken.0)))
play_done first now was is status (inr (text, true, _, reports)) causes reads writes = inr (inr (inr (refl, reports.0)))

inetd_done : (told : Option ℕ) (before after : Medium) (first now : Scene) (was is : Faults) (status : ℕ) → ServesStore told before after first now status
    → HasCauses was is status → IsCalm before.shown.faults after.shown.faults → IsCalm was.reads is.reads → IsCalm was.writes is.writes
    → (history : List Entry) → HasStore before.shown history → IsDone Inetd status
inetd_done told before after first now was is status (inl (fault, refused, _, status_is)) causes calm reads writes history has =
    by_status Inetd fault before after history status has calm refused status_is
inetd_done told before after first now was is status (inr (opened, closed, log, served, holds)) causes calm reads writes history has =
    session_done (setting_by growth room told None opened) opened log first now was is status holds causes reads writes

-- an element of a list that is long enough
one_of : {A : Type 0} (xs : List A) (k : ℕ) → k < length xs → A
one_of [] k within = absurd (omega (arith, within))
one_of (x ∷ xs) k within = x

doors_done : {W L K : Type 0} (doors : DoorGhosts W L) (links : LinkGhosts K) (told : Option ℕ) (before after : Medium) (first now : List (Bench W K)) (status : ℕ)
    (address : List ℕ) → ServesDoors doors links told before after first now status
    → IsCalm before.shown.faults after.shown.faults → DoorsAreCalm doors.faults first now
    → (history : List Entry) → HasStore before.shown history → IsDone (Serve address) status
doors_done doors links told before after first now status address (inl (fault, refused, _, is)) calm quiet history has =
    by_status (Serve address) fault before after history status has calm refused is
doors_done doors links told before after first now status address (inr (opened, last, log, _, _, (serves.Closed, is, _))) calm quiet history has = inl is
doors_done doors links told before after first now status address (inr (opened, last, log, _, _, (serves.DoorFault, is, failed))) calm quiet history has =
    let b = one_of first failed.place failed.within in
    absurd (quiet failed.place b failed.within (rises (doors.faults (slice_index_or first failed.place b).door) (doors.faults (slice_index_or now failed.place b).door) (failed.rose b)))
doors_done doors links told before after first now status address (inr (opened, last, log, _, _, (serves.Memory, is, _))) calm quiet history has = inr (inl is)

made_done : {D : Type 0} (disks : DiskGhosts D) (told : Option ℕ) (before after : D) (first now : Output) (host : List ℕ) (status : ℕ)
    → MakesStore disks told before after first now host status
    → IsCalm (disks.shown before).faults (disks.shown after).faults → IsCalm first.faults now.faults → IsHost host → IsFree (disks.shown before) → IsDone (Init host) status
made_done disks told before after first now host status (inl memory) calm writes host_is free = inr (inl memory.0)
made_done disks told before after first now host status (inr (inl bad)) calm writes host_is free = absurd (bad.0 host_is)
made_done disks told before after first now host status (inr (inr (_, moment, _, _, inl made))) calm writes host_is free =
    printed (Init host) first now _ status writes made.1
made_done disks told before after first now host status (inr (inr (_, moment, _, _, inr (makes.Exists, why, _)))) calm writes host_is free =
    absurd (free.2 (of_some (disks.shown before).reads _ why.0 free.0 free.1))
made_done disks told before after first now host status (inr (inr (_, moment, _, _, inr (makes.Full, why, _)))) calm writes host_is free = absurd why
made_done disks told before after first now host status (inr (inr (_, moment, _, _, inr (makes.Failed, why, _)))) calm writes host_is free =
    absurd (calm (rises (disks.shown before).faults (disks.shown after).faults why.1))
made_done disks told before after first now host status (inr (inr (_, moment, _, _, inr (makes.Memory, _, tells)))) calm writes host_is free = inr (inl tells.0)

checked_done : (before after : Medium) (first now : Output) (status : ℕ) → ChecksStore before after first now status
    → IsCalm before.shown.faults after.shown.faults → IsCalm first.faults now.faults → (history : List Entry) → HasStore before.shown history → IsDone Check status
checked_done before after first now status (inl (fault, refused, tells)) calm writes history has = by_told Check fault before after history first now status has calm refused tells
checked_done before after first now status (inr (opened, _, _, (tip, _, inl prints))) calm writes history has = printed Check first now _ status writes prints
checked_done before after first now status (inr (opened, _, _, (tip, _, inr memory))) calm writes history has = inr (inl memory.0)

exported_done : (table : Table) (before after : Medium) (first now : Output) (status : ℕ) → ExportsStore table before after first now status
    → IsCalm before.shown.faults after.shown.faults → IsCalm first.faults now.faults → (history : List Entry) → HasStore before.shown history → IsDone (Export table) status
exported_done table before after first now status (inl (fault, refused, tells)) calm writes history has =
    by_told (Export table) fault before after history first now status has calm refused tells
exported_done table before after first now status (inr (opened, _, _, inl done)) calm writes history has = inl done.0
exported_done table before after first now status (inr (opened, _, _, inr (inl broken))) calm writes history has = absurd (writes (broke first now [] _ broken.1))
exported_done table before after first now status (inr (opened, _, _, inr (inr memory))) calm writes history has = inr (inl memory.0)

-- ---- each task

-- a task that only prints
pub prints_complete : (task : Task) (told : Option ℕ) (disk after : DiskState) (second filled : DiskState) (chance left : Chance) (reads later : ℕ) (first now : Output) (text : List ℕ) (status : ℕ)
    → Prints first now text status
    → IsComplete task told (outside_of disk second chance (faults_of reads first.faults)) (outside_of after filled left (faults_of later now.faults)) status
prints_complete task told disk after second filled chance left reads later first now text status prints = λ calm possible. printed task first now text status calm.writes prints

pub init_complete : {D : Type 0} (disks : DiskGhosts D) (told : Option ℕ) (before after : D) (second filled : DiskState) (chance left : Chance) (reads later : ℕ)
    (first now : Output) (host : List ℕ) (status : ℕ) → MakesStore disks told before after first now host status
    → IsComplete (Init host) told (outside_of (disks.shown before) second chance (faults_of reads first.faults)) (outside_of (disks.shown after) filled left (faults_of later now.faults)) status
init_complete disks told before after second filled chance left reads later first now host status made =
    λ calm possible. made_done disks told before after first now host status made calm.disk calm.writes possible.0 possible.1

pub inetd_complete : (told : Option ℕ) (before after : Medium) (second filled : DiskState) (chance left : Chance) (first now : Scene) (was is : Faults) (status : ℕ)
    → ServesStore told before after first now status → HasCauses was is status
    → IsComplete Inetd told (outside_of before.shown second chance was) (outside_of after.shown filled left is) status
inetd_complete told before after second filled chance left first now was is status serves causes =
    λ calm possible. inetd_done told before after first now was is status serves causes calm.disk calm.reads calm.writes possible.0 possible.1

pub serve_complete : {W L K : Type 0} (doors : DoorGhosts W L) (links : LinkGhosts K) (told : Option ℕ) (before after : Medium) (second filled : DiskState) (chance left : Chance)
    (first now : List (Bench W K)) (was is : Faults) (status : ℕ) (address : List ℕ) → ServesDoors doors links told before after first now status
    → DoorsAreCalm doors.faults first now → IsComplete (Serve address) told (outside_of before.shown second chance was) (outside_of after.shown filled left is) status
serve_complete doors links told before after second filled chance left first now was is status address serves quiet =
    λ calm possible. doors_done doors links told before after first now status address serves calm.disk quiet possible.0 possible.1

pub add_actor_complete : (told : Option ℕ) (before after : Medium) (second filled : DiskState) (chance left : Chance) (reads later : ℕ) (first now : Output) (name : List ℕ) (locked : Bool) (status : ℕ)
    → AddsMember told before after chance left first now name locked status
    → IsComplete (AddActor name locked) told (outside_of before.shown second chance (faults_of reads first.faults)) (outside_of after.shown filled left (faults_of later now.faults)) status
add_actor_complete told before after second filled chance left reads later first now name locked status added =
    λ calm possible. added_done told before after chance left first now name locked status added calm.disk calm.draws calm.writes possible.0 possible.1 possible.2 possible.3

pub add_peer_complete : (told : Option ℕ) (before after : Medium) (second filled : DiskState) (chance left : Chance) (reads later : ℕ) (first now : Output) (host key address : List ℕ) (relay : Bool) (status : ℕ)
    → AddsPeer told before after first now host key address relay status
    → IsComplete (AddPeer host key address relay) told (outside_of before.shown second chance (faults_of reads first.faults)) (outside_of after.shown filled left (faults_of later now.faults)) status
add_peer_complete told before after second filled chance left reads later first now host key address relay status peered =
    λ calm possible. peered_done told before after first now host key address relay status peered calm.disk calm.writes possible.0 possible.1 possible.2 possible.3 possible.4 possible.5

pub deliver_complete : (told : Option ℕ) (before after : Medium) (second filled : DiskState) (chance left : Chance) (reads later : ℕ) (asked heard : Told) (first now : Output) (status : ℕ)
    → DeliversStore told before after asked heard first now status
    → IsComplete Deliver told (outside_of before.shown second chance (faults_of reads first.faults)) (outside_of after.shown filled left (faults_of later now.faults)) status
deliver_complete told before after second filled chance left reads later asked heard first now status delivered =
    λ calm possible. delivered_done told before after asked heard first now status delivered calm.disk calm.writes possible.0 possible.1 possible.2

-- by the first bench's link
pub deliver_by_complete : {W K : Type 0} (links : LinkGhosts K) (told : Option ℕ) (before after : Medium) (second filled : DiskState) (chance left : Chance) (reads later : ℕ) (benches now_benches : List (Bench W K))
    (first now : Output) (status : ℕ) → DeliversBy links told before after benches now_benches first now status
    → IsComplete Deliver told (outside_of before.shown second chance (faults_of reads first.faults)) (outside_of after.shown filled left (faults_of later now.faults)) status
deliver_by_complete links told before after second filled chance left reads later [] now_benches first now status delivered = absurd delivered
deliver_by_complete links told before after second filled chance left reads later (b ∷ benches) now_benches first now status (link, _, delivered) =
    deliver_complete told before after second filled chance left reads later (tells links b.link) (tells links link) first now status delivered

pub export_complete : (table : Table) (told : Option ℕ) (before after : Medium) (second filled : DiskState) (chance left : Chance) (reads later : ℕ) (first now : Output) (status : ℕ)
    → ExportsStore table before after first now status
    → IsComplete (Export table) told (outside_of before.shown second chance (faults_of reads first.faults)) (outside_of after.shown filled left (faults_of later now.faults)) status
export_complete table told before after second filled chance left reads later first now status exported =
    λ calm possible. exported_done table before after first now status exported calm.disk calm.writes possible.0 possible.1

pub check_complete : (told : Option ℕ) (before after : Medium) (second filled : DiskState) (chance left : Chance) (reads later : ℕ) (first now : Output) (status : ℕ)
    → ChecksStore before after first now status
    → IsComplete Check told (outside_of before.shown second chance (faults_of reads first.faults)) (outside_of after.shown filled left (faults_of later now.faults)) status
check_complete told before after second filled chance left reads later first now status checked =
    λ calm possible. checked_done before after first now status checked calm.disk calm.writes possible.0 possible.1

-- its text is printed, or there is no memory
pub demo_complete : (told : Option ℕ) (disk after : DiskState) (second filled : DiskState) (chance left : Chance) (reads later : ℕ) (first now : Output) (number : ℕ) (status : ℕ)
    → Demonstrates number first now status
    → IsComplete (Demo number) told (outside_of disk second chance (faults_of reads first.faults)) (outside_of after filled left (faults_of later now.faults)) status
demo_complete told disk after second filled chance left reads later first now number status (inl (text, _, prints)) =
    prints_complete (Demo number) told disk after second filled chance left reads later first now text status prints
demo_complete told disk after second filled chance left reads later first now number status (inr (none, _)) = λ calm possible. inr (inl none)

-- its script is played, or there is no memory, or a line is refused
pub play_complete : (told : Option ℕ) (disk after : DiskState) (second filled : DiskState) (chance left : Chance) (first now : Scene) (was is : Faults) (status : ℕ)
    → PlaysScript first now status → HasCauses was is status
    → IsComplete Play told (outside_of disk second chance was) (outside_of after filled left is) status
play_complete told disk after second filled chance left first now was is status plays causes =
    λ calm possible. play_done first now was is status plays causes calm.reads calm.writes
