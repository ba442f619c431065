-- What the making of a member or a peer leaves: a status that it may end with, and a machine that
-- represents a log.
use Rattle.std.proofs.Common.{◌≡◌, ◌⊎◌, ℕ, Bool, true, false, if◌then◌else◌, List, length, ◌++◌, Option, None, Some, Result, Ok, Err, OnOk, OnErr, inl, inr, refl, sym, ap, subst, ◌∙◌}
use Rattle.std.specs.List.{list_any}
use Rattle.fedi_core.specs.Commands.{IsCommand}
use Rattle.fedi_core.specs.declared.keeping.KeepFault.TheVariants as keeps
use Rattle.fedi_core.proofs.Crashing.{quiet_call, settled_after}
use Rattle.fedi_entry.specs.Codes.{code_of}
use Rattle.fedi_log.specs.Keeping.{Base, State, base_of}
use Rattle.fedi_log.specs.Log.{Failed, given, items_of}
use Rattle.fedi_log.proofs.Keeping.{unchanged}
use Rattle.fedi_objects.specs.declared.entry.Entry.{Entry}
use Rattle.fedi_objects.specs.declared.entry.Entry.TheVariants.{Hosted, Made, PeerSet, Local, Remote, Tried}
use Rattle.fedi_objects.specs.Limits.{is_address}
use Rattle.fedi_opening.specs.Opening.{IsNext}
use Rattle.fedi_outside.specs.Keepers.{Crashes, KeeperState, LeavesRecords, PassesTime, after_fault}
use Rattle.fedi_town.specs.declared.command_fault.CommandFault.{CommandFault}
use Rattle.fedi_town.specs.declared.command_fault.CommandFault.TheVariants as faults
use Rattle.fedi_town.specs.Histories.{town}
use Rattle.fedi_town.specs.Legal.{broken_command, is_taken_host}
use Rattle.fedi_town.specs.Towns.{has_digest, has_name}
use Rattle.fedi_logged.specs.Marks.{SurvivesMarked}
use Rattle.fedi_startup.specs.Surviving.{growth, room}
use Rattle.fedi_program.specs.Commands.{AddActor, Task}
use Rattle.fedi_logged.specs.Turns.{Standing, Turns}
use Rattle.fedi_logged.specs.Endings.{Output}
use Rattle.fedi_program.specs.Endings.{Prints}
use Rattle.fedi_program.specs.Members.{EndsWith, IsSettled, IsUnmade, MakesMember, ReportsFault, key_line, member_entry}
use Rattle.fedi_program.specs.Runs.{is_status_of}
use Rattle.fedi_logged.proofs.Crashing.{survives_first, survives_more, survives_turn}
use Rattle.fedi_program.proofs.RunLemmas.{known_status}
use Rattle.fedi_logged.proofs.Turning.{IsUnkept, failed_turn}
use Rattle.fedi_program.specs.Seen.{Chance}

-- ---- the status

-- a command ended this way: each status that it may have is one of the task
fault_status : (task : Option Task) (fault : CommandFault) (first now : Output) (status : ℕ)
    → is_status_of task 5 ≡ true → is_status_of task 10 ≡ true → is_status_of task 12 ≡ true → is_status_of task 13 ≡ true
    → ReportsFault fault first now status → is_status_of task status ≡ true
fault_status task faults.NameTaken first now status five ten twelve thirteen told = known_status task status 10 ten told.0
fault_status task faults.KeyTaken first now status five ten twelve thirteen told = known_status task status 10 ten told.0
fault_status task faults.HostTaken first now status five ten twelve thirteen told = known_status task status 10 ten told.0
fault_status task faults.BadAddress first now status five ten twelve thirteen told = known_status task status 10 ten told.0
fault_status task faults.Full first now status five ten twelve thirteen told = known_status task status 13 thirteen told.0
fault_status task faults.KeeperFault first now status five ten twelve thirteen told = known_status task status 5 five told.0
fault_status task faults.Memory first now status five ten twelve thirteen told = known_status task status 12 twelve told.0

pub print_status : (task : Option Task) (first now : Output) (line : List ℕ) (status : ℕ) → is_status_of task 0 ≡ true → is_status_of task 7 ≡ true
    → Prints first now line status → is_status_of task status ≡ true
print_status task first now line status zero seven (inl done) = known_status task status 0 zero done.0
print_status task first now line status zero seven (inr failed) = known_status task status 7 seven failed.0

pub end_status : (task : Option Task) (growth room : ℕ → ℕ) (before after : State) (first now : Output) (e : Entry) (line : List ℕ) (status : ℕ)
    → is_status_of task 0 ≡ true → is_status_of task 5 ≡ true → is_status_of task 7 ≡ true → is_status_of task 10 ≡ true → is_status_of task 12 ≡ true
    → is_status_of task 13 ≡ true → EndsWith growth room before after first now e line status → is_status_of task status ≡ true
end_status task growth room before after first now e line status zero five seven ten twelve thirteen (inl unmade) =
    fault_status task unmade.0 first now status five ten twelve thirteen unmade.2
end_status task growth room before after first now e line status zero five seven ten twelve thirteen (inr made) =
    print_status task first now line status zero seven made.2

pub member_status : (growth room : ℕ → ℕ) (told : Option ℕ) (chance left : Chance) (before after : State) (first now : Output) (name : List ℕ) (locked : Bool) (status : ℕ)
    → MakesMember growth room told chance left before after first now name locked status → is_status_of (Some (AddActor name locked)) status ≡ true
member_status growth room told chance left before after first now name locked status (inl failed) = known_status (Some (AddActor name locked)) status 6 refl failed.0
member_status growth room told chance left before after first now name locked status (inr (key, moment, _, _, inl bad)) =
    known_status (Some (AddActor name locked)) status 10 refl bad.1.1.0
member_status growth room told chance left before after first now name locked status (inr (key, moment, _, _, inr (_, ends))) =
    end_status (Some (AddActor name locked)) growth room before after first now (member_entry name key locked moment) (key_line name key) status
    refl refl refl refl refl refl ends

-- ---- a keeper that failed was asked to settle

-- and it did: then nothing is in doubt
pub settled_turn : (growth room : ℕ → ℕ) (before refused after : Standing) (e : Entry) → refused.state.history ≡ before.state.history → IsNext (town before.state.history) e
    → IsUnkept room before refused e keeps.Failed → after.state.history ≡ refused.state.history
    → after.state.keeper ≡ record refused.state.keeper { doubt = None }
    → PassesTime refused.state.keeper.records refused.state.keeper.doubt refused.crashes after.crashes → Turns growth before after (Failed e)
settled_turn growth room before refused after e same next k still settled time =
    let f = (failed_turn growth room before refused e same next k).follows in
    record {
      follows = record {
        history = still ∙ f.history;
        records = ap (λ (s : KeeperState). s.records) settled ∙ f.records;
        end = ap (λ (s : KeeperState). s.end) settled ∙ f.end;
        doubt = inr (inl (ap (λ (s : KeeperState). s.doubt) settled));
        faults = ap (λ (s : KeeperState). s.faults) settled ∙ f.faults;
      };
      passes = settled_after before.state.keeper refused.state.keeper (code_of e) before.crashes refused.crashes after.crashes k.0.1 k.1 time;
      may_fail = next;
    }

-- and it failed again, which is one more fault
pub failed_again : (growth : ℕ → ℕ) (refused after : Standing) (e : Entry) → IsNext (town refused.state.history) e → after.state.history ≡ refused.state.history
    → after.state.keeper ≡ after_fault refused.state.keeper
    → PassesTime refused.state.keeper.records refused.state.keeper.doubt refused.crashes after.crashes → Turns growth refused after (Failed e)
failed_again growth refused after e next still failed time =
    let quiet = unchanged growth refused.state (record after.state { keeper = refused.state.keeper }) still refl refl refl refl in
    record {
      follows = record {
        history = quiet.history;
        records = ap (λ (s : KeeperState). s.records) failed ∙ quiet.records;
        end = ap (λ (s : KeeperState). s.end) failed ∙ quiet.end;
        doubt = inl (ap (λ (s : KeeperState). s.doubt) failed);
        faults = ap (λ (s : KeeperState). s.faults) failed;
      };
      passes = quiet_call refused.state.keeper.records refused.state.keeper.doubt (code_of e) refused.crashes after.crashes time;
      may_fail = next;
    }

-- whatever the result, the machine represents a log that marks the failures
pub settling_survives : {T E : Type 0} (b : Base) (room : ℕ → ℕ) (before refused after : Standing) (e : Entry) (settled : Result T E)
    → b.kept ≡ length before.state.history → b.shown ≡ before.state.keeper → LeavesRecords before.state.keeper before.crashes
    → refused.state.history ≡ before.state.history → IsNext (town before.state.history) e → IsUnkept room before refused e keeps.Failed
    → after.state.history ≡ refused.state.history
    → OnOk settled (after.state.keeper ≡ record refused.state.keeper { doubt = None }) → OnErr settled (after.state.keeper ≡ after_fault refused.state.keeper)
    → PassesTime refused.state.keeper.records refused.state.keeper.doubt refused.crashes after.crashes
    → SurvivesMarked b None (given before.state.history) after.state before.crashes after.crashes
settling_survives b room before refused after e (Ok x) kept shown now same next k still done failed time =
    survives_turn b None before after kept shown now (Failed e, settled_turn b.growth room before refused after e same next k still done time)
settling_survives b room before refused after e (Err x) kept shown now same next k still done failed time =
    let first = survives_turn b None before refused kept shown now (Failed e, failed_turn b.growth room before refused e same next k) in (
      first.0 ++ items_of None (Failed e),
      survives_more b None (given before.state.history) first.0 before.crashes refused after (Failed e) first.1
          (failed_again b.growth refused after e (subst (λ (h : List Entry). IsNext (town h) e) (sym same) next) still failed time),
    )

-- and what was in doubt is settled, or still in doubt as it was
pub settles : {T E : Type 0} (refused after : State) (settled : Result T E) → after.history ≡ refused.history
    → OnOk settled (after.keeper ≡ record refused.keeper { doubt = None }) → OnErr settled (after.keeper ≡ after_fault refused.keeper) → IsSettled refused after
settles refused after (Ok x) still done failed = (still, inl done)
settles refused after (Err x) still done failed = (still, inr failed)

-- a machine to which nothing was done represents the log of its history
pub unmoved : (growth room : ℕ → ℕ) (s : State) (crashes : Crashes) → LeavesRecords s.keeper crashes
    → SurvivesMarked (base_of growth room s) None (given s.history) s crashes crashes
unmoved growth room s crashes now = (given s.history, survives_first (base_of growth room s) None s crashes refl refl now)

-- a command that breaks a rule was refused for that
pub broken_unmade : (room : ℕ → ℕ) (s : State) (e : Entry) (fault : CommandFault) → IsCommand (town s.history) e → broken_command (town s.history) e ≡ Some fault
    → IsUnmade room s s e fault
broken_unmade room s (Hosted host moment) fault command is = absurd command
broken_unmade room s (Local name repeat a moment) fault command is = absurd command
broken_unmade room s (Remote peer inbox a moment) fault command is = absurd command
broken_unmade room s (Tried activity recipient came moment) fault command is = absurd command
broken_unmade room s (Made name digest locked moment) fault command is =
    of (taken (list_any (has_name name) (town s.history).actors) (list_any (has_digest digest) (town s.history).actors) is)
  where
    taken : (a b : Bool) → (if a then Some faults.NameTaken else (if b then Some faults.KeyTaken else None)) ≡ Some fault
        → (fault ≡ faults.NameTaken) ⊎ (fault ≡ faults.KeyTaken)
    taken true b same = inl cc
    taken false true same = inr cc
    taken false false same = absurd (cc same)

    of : (fault ≡ faults.NameTaken) ⊎ (fault ≡ faults.KeyTaken) → IsUnmade room s s (Made name digest locked moment) fault
    of (inl name_is) = subst (IsUnmade room s s (Made name digest locked moment)) (sym name_is) (s, refl, (is ∙ ap (λ (f : CommandFault). Some f) name_is, refl), refl)
    of (inr key_is) = subst (IsUnmade room s s (Made name digest locked moment)) (sym key_is) (s, refl, (is ∙ ap (λ (f : CommandFault). Some f) key_is, refl), refl)
broken_unmade room s (PeerSet host key address relay moment) fault command is = of (wrong (is_taken_host (town s.history) host) (is_address address) is)
  where
    e : Entry
    e = PeerSet host key address relay moment

    wrong : (a b : Bool) → (if a then Some faults.HostTaken else (if b then None else Some faults.BadAddress)) ≡ Some fault
        → (fault ≡ faults.HostTaken) ⊎ (fault ≡ faults.BadAddress)
    wrong true b same = inl cc
    wrong false false same = inr cc
    wrong false true same = absurd (cc same)

    of : (fault ≡ faults.HostTaken) ⊎ (fault ≡ faults.BadAddress) → IsUnmade room s s e fault
    of (inl host_is) = subst (IsUnmade room s s e) (sym host_is) (s, refl, (is ∙ ap (λ (f : CommandFault). Some f) host_is, refl), refl)
    of (inr address_is) = subst (IsUnmade room s s e) (sym address_is) (s, refl, (is ∙ ap (λ (f : CommandFault). Some f) address_is, refl), refl)
