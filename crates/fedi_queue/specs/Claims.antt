-- Rows of a queue, in order, some of which are claimed: given to one who tries the delivery, and to
-- nobody else.
use Rattle.std.specs.Prelude.{ℕ, zero, suc, ◌+◌, ◌-◌, Bool, true, false, not, ◌&&◌, ◌||◌, nat_eq}
use Rattle.std.specs.Prelude.{nat_le, nat_lt, IsTrue, List, [], ◌∷◌, ◌++◌, Option, Some, None}
use Rattle.std.specs.Prelude.{if◌then◌else◌, vec_len, vec_capacity}
use Rattle.std.specs.List.{list_all}
use Rattle.fedi_queue.specs.declared.rows.Claim.{Claim}
use Rattle.fedi_queue.specs.declared.rows.QueueRow.{QueueRow}
use Rattle.fedi_queue.specs.declared.rows.Rows.TheInside.{Inside}

-- the delivery is due at this moment, and not claimed
unfoldable pub is_free_at : ℕ → QueueRow → Bool
is_free_at moment row = not row.claimed && nat_le row.due moment

-- the row is for this activity and the recipient at this index
unfoldable pub is_at : ℕ → ℕ → QueueRow → Bool
is_at activity place row = nat_eq row.activity activity && nat_eq row.place place

-- the same, and it is claimed
unfoldable pub is_claimed_at : ℕ → ℕ → QueueRow → Bool
is_claimed_at activity place row = row.claimed && is_at activity place row

-- what is given to whoever tries it at this moment
abbrev pub claim_of : ℕ → QueueRow → Claim
claim_of moment row = record { activity = row.activity; recipient = row.place; moment = moment }

-- claimed from now on
abbrev pub claim : QueueRow → QueueRow
claim row = record row { claimed = true }

-- not claimed, or not any longer
abbrev pub release : QueueRow → QueueRow
release row = record row { claimed = false }

-- after one more attempt: another is due from this moment on and not claimed, or there is no
-- further attempt
abbrev pub settled : Option ℕ → QueueRow → List QueueRow
settled None row = []
settled (Some due) row = record row { attempts = row.attempts + 1; due = due; claimed = false } ∷ []

-- ---- one row

-- a change of the first that passes
abbrev pub change_first : {A : Type 0} → (A → Bool) → (A → A) → List A → List A
change_first p f [] = []
change_first p f (x ∷ xs) = if p x then f x ∷ xs else x ∷ change_first p f xs

-- The second rows, with those claimed that are claimed among the first. Both are in the same order,
-- and the second have more.
abbrev pub carried : List QueueRow → List QueueRow → List QueueRow
carried rows [] = []
carried [] (y ∷ ys) = y ∷ ys
carried (x ∷ xs) (y ∷ ys) =
    if is_at x.activity x.place y then record y { claimed = x.claimed } ∷ carried xs ys
    else y ∷ carried (x ∷ xs) ys

-- the list with the item at this index replaced by what it becomes
abbrev pub replace_at : {A : Type 0} → ℕ → (A → List A) → List A → List A
replace_at k f [] = []
replace_at zero f (x ∷ xs) = f x ++ xs
replace_at (suc k) f (x ∷ xs) = x ∷ replace_at k f xs

-- ---- how they are held

-- it may not be claimed before this moment
unfoldable pub is_not_before : ℕ → QueueRow → Bool
is_not_before earliest row = row.claimed || nat_le earliest row.due

-- there were fewer than eight attempts
unfoldable pub is_few : QueueRow → Bool
is_few row = nat_lt row.attempts 8

-- the rows, and how many more there is room for
pub record Listed : Type 0 where
  pub rows : List QueueRow
  pub room : ℕ

-- the rows, as callers see them
abbrev pub listed_in : Inside → Listed
listed_in q = record { rows = q.list.items; room = vec_capacity q.list - vec_len q.list }

-- none may be claimed before the earliest moment, and each was tried fewer than eight times
abbrev pub AreRows : Inside → Type 0
AreRows q =
    IsTrue (list_all (is_not_before q.earliest) q.list.items)
    × IsTrue (list_all is_few q.list.items)
