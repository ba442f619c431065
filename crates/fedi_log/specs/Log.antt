-- A log: what was kept, what the keeper failed to keep, and which deliveries were claimed and
-- released, in order.
use Rattle.std.specs.Prelude.{◌≡◌, ◌≢◌, ℕ, ◌==◌, Bool, false, true, List, [], ◌∷◌, ◌++◌, map}
use Rattle.std.specs.Prelude.{Option, Some, None, All}
use Rattle.std.specs.List.{filter, flat_map, fold}
use Rattle.fedi_entry.specs.Codes.{code_of}
use Rattle.fedi_objects.specs.declared.entry.Entry.{Entry}
use Rattle.fedi_log.specs.declared.items.Item.{Item}
use Rattle.fedi_log.specs.declared.items.What.{What}
use Rattle.fedi_log.specs.declared.items.What.TheVariants.{Entered, Marked, Claimed, Released}

-- the items, from the first to the last
abbrev pub Log : Type 0
Log = List Item

-- an item, added by the pass of this number or by none
abbrev pub made_by : Option ℕ → What → Item
made_by by what = record { what = what; pass = by }

-- the log of a history that was kept before
abbrev pub given : List Entry → Log
given history = map (λ (e : Entry). made_by None (Entered e)) history

-- ---- what a log says

-- the entry that was kept
abbrev pub entry_in : What → List Entry
entry_in (Entered e) = e ∷ []
entry_in (Marked e) = []
entry_in (Claimed p place moment) = []
entry_in (Released p) = []

-- its entries, in order
abbrev pub history_of : Log → List Entry
history_of log = flat_map (λ (i : Item). entry_in i.what) log

-- the entry that the keeper failed to keep
abbrev pub mark_in : What → List Entry
mark_in (Entered e) = []
mark_in (Marked e) = e ∷ []
mark_in (Claimed p place moment) = []
mark_in (Released p) = []

-- the entries that the keeper failed to keep, in order
abbrev pub marks_of : Log → List Entry
marks_of log = flat_map (λ (i : Item). mark_in i.what) log

-- a record that the keeper failed to keep may be in doubt until one is kept
abbrev pub doubts_after : List (List ℕ) → What → List (List ℕ)
doubts_after doubts (Entered e) = []
doubts_after doubts (Marked e) = doubts ++ code_of e ∷ []
doubts_after doubts (Claimed p place moment) = doubts
doubts_after doubts (Released p) = doubts

-- the records, one of which may be in doubt after these items, given those before the items
abbrev pub doubts_of : List (List ℕ) → Log → List (List ℕ)
doubts_of before log =
    fold (λ (doubts : List (List ℕ)) (i : Item). doubts_after doubts i.what) before log

-- ---- what a request adds

-- what became of the entry that a request was to add
pub data Outcome : Type 0 where
  NoEntry : Outcome
  Kept : Entry → Outcome
  Full : Entry → Outcome
  Failed : Entry → Outcome

-- what that adds to the log
abbrev pub items_of : Option ℕ → Outcome → Log
items_of by NoEntry = []
items_of by (Kept e) = made_by by (Entered e) ∷ []
items_of by (Full e) = []
items_of by (Failed e) = made_by by (Marked e) ∷ []

-- the entry that was kept, if there is one
abbrev pub kept_in : Outcome → List Entry
kept_in NoEntry = []
kept_in (Kept e) = e ∷ []
kept_in (Full e) = []
kept_in (Failed e) = []

-- the entry that the keeper failed to keep
abbrev pub failed_in : Outcome → List Entry
failed_in NoEntry = []
failed_in (Kept e) = []
failed_in (Full e) = []
failed_in (Failed e) = e ∷ []

-- ---- how a log grows

-- the item is not one of this pass
abbrev pub IsOthers : Option ℕ → Item → Type 0
IsOthers by i = i.pass ≢ by

-- the log extends what was seen, by items of others alone
pub record Goes (by : Option ℕ) (seen log : Log) : Type 0 where
  pub rest : Log
  pub is : log ≡ seen ++ rest
  pub others : All (IsOthers by) rest

-- two passes are the same, or there is none in both cases
abbrev pub is_same_pass : Option ℕ → Option ℕ → Bool
is_same_pass None None = true
is_same_pass None (Some n) = false
is_same_pass (Some m) None = false
is_same_pass (Some m) (Some n) = m == n

-- the items after what was seen that name this pass are these
pub record Added (by : Option ℕ) (seen log items : Log) : Type 0 where
  pub rest : Log
  pub is : log ≡ seen ++ rest
  pub own : filter (λ (i : Item). is_same_pass by i.pass) rest ≡ items
