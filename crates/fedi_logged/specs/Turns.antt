-- What a crash may leave of a keeper's records during one turn of the machine.
use Rattle.std.specs.Prelude.{ℕ, List}
use Rattle.fedi_entry.specs.Codes.{code_of}
use Rattle.fedi_core.specs.Crashing.{PassesTimeWith}
use Rattle.fedi_core.specs.Machines.{Machine}
use Rattle.fedi_log.specs.Keeping.{Follows, State, state_of}
use Rattle.fedi_log.specs.Log.{Failed, Full, Kept, NoEntry, Outcome}
use Rattle.fedi_objects.specs.declared.entry.Entry.{Entry}
use Rattle.fedi_opening.specs.Opening.{IsNext}
use Rattle.fedi_outside.specs.Keepers.{Crashes, KeeperState, PassesTime}
use Rattle.fedi_town.specs.Histories.{town}

-- a crash during a turn leaves the records, followed by the one in doubt or, if the keeper was to
-- keep an entry, by that of the entry, if by any
abbrev pub TurnPasses : Outcome → KeeperState → Crashes → Crashes → Type 0
TurnPasses NoEntry k before after = PassesTime k.records k.doubt before after
TurnPasses (Kept e) k before after = PassesTimeWith k.records k.doubt (code_of e) before after
TurnPasses (Full e) k before after = PassesTime k.records k.doubt before after
TurnPasses (Failed e) k before after = PassesTimeWith k.records k.doubt (code_of e) before after

-- an entry that the keeper failed to keep may come next
abbrev pub MayFail : List Entry → Outcome → Type 0
MayFail history NoEntry = Unit {0}
MayFail history (Kept e) = Unit {0}
MayFail history (Full e) = Unit {0}
MayFail history (Failed e) = IsNext (town history) e

-- a machine at a moment: its history, what its keeper shows, and what a crash at that moment leaves
-- of the records
pub record Standing : Type 1 where
  pub state : State
  pub crashes : Crashes

-- the state of this machine, by the functions that give it for keepers of its kind
abbrev pub standing_by : {P : Type 0} → (P → KeeperState) → (P → Crashes) → Machine P → Standing
standing_by shown crashes core =
    record { state = state_of core.history (shown core.keeper); crashes = crashes core.keeper }

-- one turn of the machine with this outcome, and what a crash during it leaves
pub record Turns (growth : ℕ → ℕ) (before after : Standing) (outcome : Outcome) : Type 0 where
  pub follows : Follows growth before.state after.state outcome
  pub passes : TurnPasses outcome before.state.keeper before.crashes after.crashes
  pub may_fail : MayFail before.state.history outcome

-- one turn of the machine with some outcome
abbrev pub SurvivesTurn : (ℕ → ℕ) → Standing → Standing → Type 0
SurvivesTurn growth before after = (o : Outcome) × Turns growth before after o
