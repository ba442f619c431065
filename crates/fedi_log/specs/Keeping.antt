-- When a machine and its keeper hold a log.
use Rattle.std.specs.Prelude.{◌≡◌, ◌⊎◌, ℕ, ◌+◌, ◌-◌, ◌^◌, ◌≤◌, min, max, List, [], ◌∷◌, ◌++◌}
use Rattle.std.specs.Prelude.{length, map, drop, All, Option, Some, None, option_map}
use Rattle.std.specs.Prelude.{option_to_list, IfSome, Contains}
use Rattle.std.specs.List.{sum_by}
use Rattle.fedi_entry.specs.Codes.{code_of}
use Rattle.fedi_objects.specs.declared.entry.Entry.{Entry}
use Rattle.fedi_outside.specs.Causes.{next_count}
use Rattle.fedi_outside.specs.Keepers.{KeeperState}
use Rattle.fedi_log.specs.declared.items.Item.{Item}
use Rattle.fedi_log.specs.Log.{Failed, Full, Kept, Log, NoEntry, Outcome, doubts_of, given}
use Rattle.fedi_log.specs.Log.{history_of, kept_in, marks_of}

-- ---- a keeper

-- a keeper at an opening: how many entries it had, each of them an item of the log, and what it
-- showed; how far a record of a length moves its end, and how far from the limit that has to be
pub record Base : Type 0 where
  pub kept : ℕ
  pub shown : KeeperState
  pub growth : ℕ → ℕ
  pub room : ℕ → ℕ

-- the items since the opening
abbrev pub since : Base → Log → Log
since b log = drop b.kept log

-- by how much these entries move the end
abbrev pub growth_of : (ℕ → ℕ) → List Entry → ℕ
growth_of growth entries = sum_by (λ (e : Entry). growth (length (code_of e))) entries

-- the end of the keeper: the records of the entries since the opening have moved it
abbrev pub end_of : Base → Log → ℕ
end_of b log = b.shown.end + growth_of b.growth (history_of (since b log))

-- a list of records, if it is known, followed by the records of these entries
abbrev pub with_records : Option (List (List ℕ)) → List Entry → Option (List (List ℕ))
with_records records entries =
    option_map (λ (rs : List (List ℕ)). rs ++ map code_of entries) records

-- the record in doubt, if there is one, is one of these
abbrev pub IsDoubted : List (List ℕ) → Option (List ℕ) → Type 0
IsDoubted doubts doubt = IfSome doubt (λ (d : List ℕ). Contains doubts d)

-- a count of faults after this many more, which saturates at the last value of a u64
abbrev pub counted : ℕ → ℕ → ℕ
counted n more = max n (min (n + more) (2 ^ 64 - 1))

-- A keeper that shows this keeps the log: it has the records of the log's entries since the
-- opening, each once and in order; the record that may be in doubt is one of the log's doubts,
-- which begin with that of the opening; and the keeper counted one fault for each mark, and no
-- other.
pub record Keeps (b : Base) (now : KeeperState) (log : Log) : Type 0 where
  pub opened : b.kept ≤ length log
  pub records : now.records ≡ with_records b.shown.records (history_of (since b log))
  pub end : now.end ≡ end_of b log
  pub doubt : IsDoubted (doubts_of (option_to_list b.shown.doubt) (since b log)) now.doubt
  pub faults : now.faults ≡ counted b.shown.faults (length (marks_of (since b log)))

-- ---- a machine

-- the history of a machine, and what its keeper shows
pub record State : Type 0 where
  pub history : List Entry
  pub keeper : KeeperState

-- the state that consists of these
abbrev pub state_of : List Entry → KeeperState → State
state_of history keeper = record { history = history; keeper = keeper }

-- the keeper of a machine that is opened in this state
abbrev pub base_of : (ℕ → ℕ) → (ℕ → ℕ) → State → Base
base_of growth room opened =
    record { kept = length opened.history; shown = opened.keeper; growth = growth; room = room }

-- the machine holds this log
pub record Holds (b : Base) (now : State) (log : Log) : Type 0 where
  pub history : now.history ≡ history_of log
  pub keeper : Keeps b now.keeper log

-- ---- one turn

-- what may be in doubt after the turn: what was before it, if the keeper was not asked, and after a
-- failure also the record of its entry
abbrev pub DoubtAfter : Option (List ℕ) → Option (List ℕ) → Outcome → Type 0
DoubtAfter before after NoEntry = after ≡ before
DoubtAfter before after (Kept e) = after ≡ None
DoubtAfter before after (Full e) = after ≡ before
DoubtAfter before after (Failed e) =
    (after ≡ before) ⊎ ((after ≡ None) ⊎ (after ≡ Some (code_of e)))

-- a failure is counted as one fault, and nothing else is
abbrev pub FaultsAfter : ℕ → ℕ → Outcome → Type 0
FaultsAfter before after NoEntry = after ≡ before
FaultsAfter before after (Kept e) = after ≡ before
FaultsAfter before after (Full e) = after ≡ before
FaultsAfter before after (Failed e) = after ≡ next_count before

-- the machine after this outcome
pub record Follows (growth : ℕ → ℕ) (before after : State) (outcome : Outcome) : Type 0 where
  pub history : after.history ≡ before.history ++ kept_in outcome
  pub records : after.keeper.records ≡ with_records before.keeper.records (kept_in outcome)
  pub end : after.keeper.end ≡ before.keeper.end + growth_of growth (kept_in outcome)
  pub doubt : DoubtAfter before.keeper.doubt after.keeper.doubt outcome
  pub faults : FaultsAfter before.keeper.faults after.keeper.faults outcome

-- ---- many turns

-- the machine holds a log that extends what was seen, whoever added to it
pub record HoldsFrom (b : Base) (seen : Log) (now : State) (log : Log) : Type 0 where
  pub past : Log
  pub is : log ≡ seen ++ past
  pub holds : Holds b now log

-- the log extends what was seen, by one's own items alone
pub record GoesAlone (by : Option ℕ) (seen log : Log) : Type 0 where
  pub past : Log
  pub is : log ≡ seen ++ past
  pub own : All (λ (i : Item). i.pass ≡ by) past

-- the machine holds a log that extends what was seen by one's own items alone
pub record HoldsSince (b : Base) (by : Option ℕ) (seen : Log) (now : State)
    (log : Log) : Type 0 where
  pub grown : GoesAlone by seen log
  pub holds : Holds b now log
