-- Turns of the machine, given what became of the entry.
use Rattle.std.proofs.Common.{◌≡◌, ℕ, refl, subst, ◌∙◌, arith}
use Rattle.fedi_core.specs.Crashing.{PassesTimeUnkept, PassesTimeWith}
use Rattle.fedi_core.specs.Keeping.{IsKept, Refuses}
use Rattle.fedi_core.specs.declared.keeping.KeepFault.{KeepFault}
use Rattle.fedi_core.specs.declared.keeping.KeepFault.TheVariants as faults
use Rattle.fedi_entry.specs.Codes.{code_of}
use Rattle.fedi_log.proofs.Keeping.{unchanged}
use Rattle.fedi_log.specs.Keeping.{Follows, State}
use Rattle.fedi_log.specs.Log.{Failed, Full, Kept, NoEntry}
use Rattle.fedi_objects.specs.declared.entry.Entry.{Entry}
use Rattle.fedi_opening.specs.Opening.{IsNext}
use Rattle.fedi_outside.specs.Keepers.{OnlyRoomChanged}
use Rattle.fedi_town.specs.Histories.{town}
use Rattle.fedi_logged.specs.Turns.{Standing, Turns}

-- ---- nothing was kept

pub still : (growth : ℕ → ℕ) (before after : State) → after.history ≡ before.history → OnlyRoomChanged before.keeper after.keeper → Follows growth before after NoEntry
still growth before after same k = unchanged growth before after same k.records k.end k.doubt k.faults

-- the keeper did not keep the entry, for this reason
abbrev pub IsUnkept : (ℕ → ℕ) → Standing → Standing → Entry → KeepFault → Type 0
IsUnkept room before after e fault =
    Refuses room (code_of e) fault before.state.keeper after.state.keeper
    × PassesTimeUnkept fault before.state.keeper.records before.state.keeper.doubt (code_of e) before.crashes after.crashes

pub memory_turn : (growth room : ℕ → ℕ) (before after : Standing) (e : Entry) → after.state.history ≡ before.state.history
    → IsUnkept room before after e faults.Memory → Turns growth before after NoEntry
memory_turn growth room before after e same k = record { follows = still growth before.state after.state same k.0; passes = k.1; may_fail = tt }

pub full_turn : (growth room : ℕ → ℕ) (before after : Standing) (e : Entry) → after.state.history ≡ before.state.history
    → IsUnkept room before after e faults.Full → Turns growth before after (Full e)
full_turn growth room before after e same k =
    let f = still growth before.state after.state same k.0.1 in
    record {
      follows = record { history = f.history; records = f.records; end = f.end; doubt = f.doubt; faults = f.faults };
      passes = k.1;
      may_fail = tt;
    }

pub failed_turn : (growth room : ℕ → ℕ) (before after : Standing) (e : Entry) → after.state.history ≡ before.state.history → IsNext (town before.state.history) e
    → IsUnkept room before after e faults.Failed → Turns growth before after (Failed e)
failed_turn growth room before after e same next k =
    let failed = k.0.1 in
    let quiet : Follows growth before.state (record after.state { keeper = before.state.keeper }) NoEntry =
    unchanged growth before.state (record after.state { keeper = before.state.keeper }) same refl refl refl refl in
    record {
      follows = record {
        history = quiet.history;
        records = failed.records ∙ quiet.records;
        end = let moved = failed.end in omega (arith, moved);
        doubt = failed.doubt;
        faults = failed.faults;
      };
      passes = k.1;
      may_fail = next;
    }

-- with a reason that equals another
pub unkept_by : (room : ℕ → ℕ) (before after : Standing) (e : Entry) (f fault : KeepFault) → f ≡ fault → IsUnkept room before after e f → IsUnkept room before after e fault
unkept_by room before after e f fault is k = subst (IsUnkept room before after e) is k

pub memory_turn_by : (growth room : ℕ → ℕ) (before after : Standing) (e : Entry) (f : KeepFault) → f ≡ faults.Memory → after.state.history ≡ before.state.history
    → Refuses room (code_of e) f before.state.keeper after.state.keeper
    → PassesTimeUnkept f before.state.keeper.records before.state.keeper.doubt (code_of e) before.crashes after.crashes → Turns growth before after NoEntry
memory_turn_by growth room before after e f is same refused time =
    memory_turn growth room before after e same (unkept_by room before after e f faults.Memory is (refused, time))

pub full_turn_by : (growth room : ℕ → ℕ) (before after : Standing) (e : Entry) (f : KeepFault) → f ≡ faults.Full → after.state.history ≡ before.state.history
    → Refuses room (code_of e) f before.state.keeper after.state.keeper
    → PassesTimeUnkept f before.state.keeper.records before.state.keeper.doubt (code_of e) before.crashes after.crashes → Turns growth before after (Full e)
full_turn_by growth room before after e f is same refused time =
    full_turn growth room before after e same (unkept_by room before after e f faults.Full is (refused, time))

pub failed_turn_by : (growth room : ℕ → ℕ) (before after : Standing) (e : Entry) (f : KeepFault) → f ≡ faults.Failed → after.state.history ≡ before.state.history
    → IsNext (town before.state.history) e → Refuses room (code_of e) f before.state.keeper after.state.keeper
    → PassesTimeUnkept f before.state.keeper.records before.state.keeper.doubt (code_of e) before.crashes after.crashes → Turns growth before after (Failed e)
failed_turn_by growth room before after e f is same next refused time =
    failed_turn growth room before after e same next (unkept_by room before after e f faults.Failed is (refused, time))

-- ---- the entry was kept

pub kept_turn : (growth room : ℕ → ℕ) (before after : Standing) (e : Entry)
    → IsKept growth room before.state.history e before.state.keeper after.state.keeper after.state.history
    → PassesTimeWith before.state.keeper.records before.state.keeper.doubt (code_of e) before.crashes after.crashes → Turns growth before after (Kept e)
kept_turn growth room before after e k time = record {
  follows = record {
    history = k.history;
    records = k.keeper.records;
    end = let moved = k.keeper.end in omega (arith, moved);
    doubt = k.keeper.doubt;
    faults = k.keeper.faults;
  };
  passes = time;
  may_fail = tt;
}
