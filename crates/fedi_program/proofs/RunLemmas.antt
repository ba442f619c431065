-- From what becomes of a store, and from the end of a session, to the end of a run.
use Rattle.std.proofs.Common.{◌≡◌, ◌⊎◌, ℕ, Bool, true, List, [], ◌∷◌, Option, Some, None, arith, inl, inr, refl, sym, ◌∙◌}
use Rattle.fedi_log.specs.Log.{Log, given}
use Rattle.fedi_startup.specs.Surviving.{growth, room}
use Rattle.fedi_startup.specs.declared.faults.StoreFault.{StoreFault}
use Rattle.fedi_startup.specs.declared.faults.StoreFault.TheVariants as faults
use Rattle.fedi_log.specs.Keeping.{State}
use Rattle.fedi_logged.specs.declared.sessions.SessionEnd.{SessionEnd}
use Rattle.fedi_logged.specs.declared.sessions.SessionEnd.TheVariants.{End, CutShort, Closed, ReadFault, WriteFault, Memory}
use Rattle.fedi_hall.specs.declared.serving.ServeEnd.{ServeEnd}
use Rattle.fedi_hall.specs.declared.serving.ServeEnd.TheVariants as serves
use Rattle.fedi_outside.specs.declared.doors.Bench.{Bench}
use Rattle.fedi_outside.specs.declared.doors.Door.{Ghosts as DoorGhosts}
use Rattle.fedi_outside.specs.declared.links.Link.{Ghosts as LinkGhosts}
use Rattle.fedi_program.specs.Commands.{Serve, Task}
use Rattle.fedi_program.specs.Delivering.{DeliversBy}
use Rattle.fedi_program.specs.Serving.{ServesDoors, status_after}
use Rattle.fedi_logged.specs.Conversations.{Setting}
use Rattle.fedi_logged.specs.Endings.{Faults, IsCaused, Output, Scene}
use Rattle.fedi_program.specs.Endings.{HasCauses, RunsTo, TalksIfTold, status_of}
use Rattle.fedi_logged.specs.Turning.{setting_by}
use Rattle.fedi_logged.proofs.Ended.{ended_talks, closed_talks}
use Rattle.fedi_program.specs.Runs.{is_status_of}
use Rattle.fedi_program.specs.declared.commands.Table.{Table}
use Rattle.fedi_program.specs.Stores.{AddsMember, AddsPeer, ChecksStore, ExportsStore, IsKeptSafe, ServesStore, TalksOverStore, ReportsStore, status_by}
use Rattle.fedi_program.specs.Seen.{Chance, Medium}

-- ---- the end of a session

pub session_talks : (w : Setting) (opened : State) (log : Log) (first now : Scene) (status : ℕ) → status ≡ 0 → RunsTo w opened log first now status → TalksIfTold w opened log first now
session_talks w opened log first now status done (End, is, ran) = ended_talks w (given opened.history) first.output now log first.input ran
session_talks w opened log first now status done (Closed, is, ran) = closed_talks w (given opened.history) first.output now log first.input ran
session_talks w opened log first now status done (CutShort, is, ran) = let clash : 8 ≡ 0 = sym is ∙ done in absurd cc
session_talks w opened log first now status done (ReadFault, is, ran) = let clash : 6 ≡ 0 = sym is ∙ done in absurd cc
session_talks w opened log first now status done (WriteFault, is, ran) = let clash : 7 ≡ 0 = sym is ∙ done in absurd cc
session_talks w opened log first now status done (Memory, is, ran) = let clash : 12 ≡ 0 = sym is ∙ done in absurd cc

not_done : (fault : StoreFault) → 0 ≡ status_by fault → ⊥
not_done faults.NotAStore is = absurd cc
not_done faults.OldFormat is = absurd cc
not_done (faults.DamagedByte place) is = absurd cc
not_done (faults.DamagedRecord place) is = absurd cc
not_done faults.Failed is = absurd cc
not_done faults.Memory is = absurd cc

never_begun : (status : ℕ) → status ≡ 0 → status ≡ 12 → ⊥
never_begun status done is = let clash : 12 ≡ 0 = sym is ∙ done in cc clash

-- at status 0 the whole conversation was held
pub store_talks : (told : Option ℕ) (before after : Medium) (first now : Scene) (status : ℕ) → status ≡ 0
    → ServesStore told before after first now status → TalksOverStore told before after first now
store_talks told before after first now status done (inl (fault, _, _, is)) = absurd (not_done fault (sym done ∙ is))
store_talks told before after first now status done (inr (opened, closed, log, served, inr unserved)) = absurd (never_begun status done unserved.0)
store_talks told before after first now status done (inr (opened, closed, log, served, inl ran)) =
    (opened, closed, log, served, session_talks (setting_by growth room told None opened) opened log first now status done ran)

-- ---- what becomes of the store

pub served_safe : (told : Option ℕ) (before after : Medium) (first now : Scene) (status : ℕ) → ServesStore told before after first now status → IsKeptSafe before after
served_safe told before after first now status (inl (fault, refused, _, _)) = inl (fault, refused)
served_safe told before after first now status (inr (opened, closed, log, served, _)) = inr (opened, closed, log, served.0)

pub added_safe : (told : Option ℕ) (before after : Medium) (chance left : Chance) (first now : Output) (name : List ℕ) (locked : Bool) (status : ℕ)
    → AddsMember told before after chance left first now name locked status → IsKeptSafe before after
added_safe told before after chance left first now name locked status (inl (fault, refused, _, _)) = inl (fault, refused)
added_safe told before after chance left first now name locked status (inr (opened, closed, run, _)) = inr (opened, closed, run.0, run.1.0)

pub peered_safe : (told : Option ℕ) (before after : Medium) (first now : Output) (host key address : List ℕ) (relay : Bool) (status : ℕ)
    → AddsPeer told before after first now host key address relay status → IsKeptSafe before after
peered_safe told before after first now host key address relay status (inl (fault, refused, _)) = inl (fault, refused)
peered_safe told before after first now host key address relay status (inr (opened, closed, run, _)) = inr (opened, closed, run.0, run.1.0)

pub checked_safe : (before after : Medium) (first now : Output) (status : ℕ) → ChecksStore before after first now status → IsKeptSafe before after
checked_safe before after first now status (inl (fault, refused, _)) = inl (fault, refused)
checked_safe before after first now status (inr (opened, served, _, _)) = inr (opened, opened, given opened.history, served)

pub exported_safe : (table : Table) (before after : Medium) (first now : Output) (status : ℕ) → ExportsStore table before after first now status → IsKeptSafe before after
exported_safe table before after first now status (inl (fault, refused, _)) = inl (fault, refused)
exported_safe table before after first now status (inr (opened, served, _, _)) = inr (opened, opened, given opened.history, served)

pub doors_safe : {W L K : Type 0} (doors : DoorGhosts W L) (links : LinkGhosts K) (told : Option ℕ) (before after : Medium) (first now : List (Bench W K)) (status : ℕ)
    → ServesDoors doors links told before after first now status → IsKeptSafe before after
doors_safe doors links told before after first now status (inl (fault, refused, _, _)) = inl (fault, refused)
doors_safe doors links told before after first now status (inr (opened, last, log, is, _, _)) = inr (opened, last, log, is)

pub delivered_safe : {W K : Type 0} (links : LinkGhosts K) (told : Option ℕ) (before after : Medium) (first now : List (Bench W K)) (out later : Output) (status : ℕ)
    → DeliversBy links told before after first now out later status → IsKeptSafe before after
delivered_safe links told before after [] now out later status delivered = absurd delivered
delivered_safe links told before after (b ∷ benches) now out later status (link, _, inl (fault, refused, _, _)) = inl (fault, refused)
delivered_safe links told before after (b ∷ benches) now out later status (link, _, inr (opened, closed, run, _)) = inr (opened, closed, run.0, run.1.0)

-- ---- the status

-- a status that is known is one of the task
pub known_status : (task : Option Task) (status known : ℕ) → is_status_of task known ≡ true → status ≡ known → is_status_of task status ≡ true
known_status task status known may is = rw is may

-- it is reported that a store is not opened
pub told_status : (task : Option Task) (fault : StoreFault) (first now : Output) (status : ℕ) → is_status_of task 3 ≡ true → is_status_of task 4 ≡ true
    → is_status_of task 5 ≡ true → is_status_of task 12 ≡ true → is_status_of task 14 ≡ true → ReportsStore fault first now status → is_status_of task status ≡ true
told_status task faults.NotAStore first now status three four five twelve fourteen told = known_status task status 3 three told.0
told_status task faults.OldFormat first now status three four five twelve fourteen told = known_status task status 14 fourteen told.0
told_status task (faults.DamagedByte place) first now status three four five twelve fourteen told = known_status task status 4 four told.0
told_status task (faults.DamagedRecord place) first now status three four five twelve fourteen told = known_status task status 4 four told.0
told_status task faults.Failed first now status three four five twelve fourteen told = known_status task status 5 five told.0
told_status task faults.Memory first now status three four five twelve fourteen told = known_status task status 12 twelve told.0

-- the connections of doors were served, or not
of_fault : (address : List ℕ) (fault : StoreFault) → is_status_of (Some (Serve address)) (status_by fault) ≡ true
of_fault address faults.NotAStore = refl
of_fault address faults.OldFormat = refl
of_fault address (faults.DamagedByte place) = refl
of_fault address (faults.DamagedRecord place) = refl
of_fault address faults.Failed = refl
of_fault address faults.Memory = refl

of_ending : (address : List ℕ) (ending : ServeEnd) → is_status_of (Some (Serve address)) (status_after ending) ≡ true
of_ending address serves.Closed = refl
of_ending address serves.DoorFault = refl
of_ending address serves.Memory = refl

pub doors_status : {W L K : Type 0} (doors : DoorGhosts W L) (links : LinkGhosts K) (told : Option ℕ) (before after : Medium) (first now : List (Bench W K)) (status : ℕ)
    → ServesDoors doors links told before after first now status → (address : List ℕ) → is_status_of (Some (Serve address)) status ≡ true
doors_status doors links told before after first now status (inl (fault, _, _, is)) address = rw is (of_fault address fault)
doors_status doors links told before after first now status (inr (opened, last, log, _, _, (ending, is, _))) address = rw is (of_ending address ending)

-- ---- why a session ended

not_seven : (status : ℕ) → (status ≡ 7 → ⊥) → status ≡ 7 → ⊥
not_seven status other e = other e

no_calm : (status : ℕ) → (status ≡ 0 → ⊥) → (status ≡ 6 → ⊥) → (status ≡ 8 → ⊥) → (status ≡ 0) ⊎ ((status ≡ 6) ⊎ (status ≡ 8)) → ⊥
no_calm status zero six eight (inl e) = zero e
no_calm status zero six eight (inr (inl e)) = six e
no_calm status zero six eight (inr (inr e)) = eight e

-- a session that ended this way, with its cause, gives its status with the causes of that status
pub has_causes : (before now : Faults) (ending : SessionEnd) (status : ℕ) → status ≡ status_of ending → IsCaused before now ending → HasCauses before now status
has_causes before now End status is caused =
    rw (is, caused) (record { reads = refl; writes = inl refl; failed = λ e. absurd (not_seven 0 (λ z. omega (arith, z)) e); calm = λ _. refl })
has_causes before now Closed status is caused =
    rw (is, caused) (record { reads = refl; writes = inl refl; failed = λ e. absurd (not_seven 0 (λ z. omega (arith, z)) e); calm = λ _. refl })
has_causes before now CutShort status is caused =
    rw (is, caused) (record { reads = refl; writes = inl refl; failed = λ e. absurd (not_seven 8 (λ z. omega (arith, z)) e); calm = λ _. refl })
has_causes before now ReadFault status is caused =
    rw (is, caused) (record { reads = refl; writes = inl refl; failed = λ e. absurd (not_seven 6 (λ z. omega (arith, z)) e); calm = λ _. refl })
has_causes before now WriteFault status is caused =
    rw (is, caused) (record {
      reads = refl;
      writes = inr refl;
      failed = λ _. refl;
      calm = λ e. absurd (no_calm 7 (λ z. omega (arith, z)) (λ z. omega (arith, z)) (λ z. omega (arith, z)) e);
    })
has_causes before now Memory status is (inl caused) =
    rw (is, caused) (record { reads = refl; writes = inl refl; failed = λ e. absurd (not_seven 12 (λ z. omega (arith, z)) e); calm = λ _. refl })
has_causes before now Memory status is (inr caused) =
    rw (is, caused) (record {
      reads = refl;
      writes = inr refl;
      failed = λ e. absurd (not_seven 12 (λ z. omega (arith, z)) e);
      calm = λ e. absurd (no_calm 12 (λ z. omega (arith, z)) (λ z. omega (arith, z)) (λ z. omega (arith, z)) e);
    })
