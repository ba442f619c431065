-- Rows of a queue: which is the first that passes, what a change of it leaves, and when none may be
-- claimed.
use Rattle.std.proofs.Common.{◌≡◌, ℕ, zero, suc, ◌+◌, ◌<◌, ◌≤◌, arith, Bool, true, false, List, [], ◌∷◌, ◌++◌, Option, Some, None, refl, sym, ap, ◌∙◌, set, get_or, length, take, ltb, min}
use Rattle.std.specs.Prelude.{◌&&◌, ◌||◌, not, map, remove, nat_le, nat_lt, slice_get, IsTrue, if◌then◌else◌}
use Rattle.std.specs.List.{find, list_all, list_any, position_or_len}
use Rattle.std.proofs.lemmas.Bool.{and_parts, leb-true, le-leb, lt-leb, ltb-true}
use Rattle.std.proofs.lemmas.List.Folds.{list_all-append}
use Rattle.fedi_objects.specs.declared.entry.Came.{Came}
use Rattle.fedi_queue.specs.declared.rows.QueueRow.{QueueRow}
use Rattle.fedi_queue.specs.Claims.{change_first, claim, is_few, is_free_at, is_not_before, release, replace_at, settled}
use Rattle.fedi_queue.specs.Queues.{IsNext, due_of}
use Rattle.fedi_register.specs.Changes.{place_where}
use Rattle.fedi_register.proofs.Edited.{none_there}
use Rattle.fedi_register.proofs.Once.{lt_step, placed}
use Rattle.fedi_town.proofs.Lists.{find-none}
use Rattle.fedi_town.specs.declared.outcome.Outcome.{Outcome}
use Rattle.fedi_town.specs.Queues.{after_outcome, outcome}

-- ---- the first that passes

-- if none passes, none is changed
pub none_changed : {A : Type 0} (p : A → Bool) (f : A → A) (xs : List A) → find p xs ≡ None → change_first p f xs ≡ xs
none_changed p f [] none = refl
none_changed {A} p f (x ∷ xs) none =
    elim (p x) as (λ b. (if b then Some x else find p xs) ≡ None → (if b then f x ∷ xs else x ∷ change_first p f xs) ≡ x ∷ xs) [
      | true ↦ λ e. absurd cc
      | false ↦ λ e. ap (λ (ys : List A). x ∷ ys) (none_changed p f xs e)
    ] none

pub late_same : {A : Type 0} (p : A → Bool) (f : A → A) (xs : List A) → None ≡ place_where p xs → change_first p f xs ≡ xs
late_same p f xs none = none_changed p f xs (none_there p xs none)

set-first : {A : Type 0} (p : A → Bool) (f : A → A) (xs : List A) (y d : A) → ltb (position_or_len p xs) (length xs) ≡ true → y ≡ f (get_or xs (position_or_len p xs) d)
    → set xs (position_or_len p xs) y ≡ change_first p f xs
set-first p f [] y d e is = absurd cc
set-first {A} p f (x ∷ xs) y d e is =
    elim (p x) as (λ b. p x ≡ b → set (x ∷ xs) (position_or_len p (x ∷ xs)) y ≡ (if b then f x ∷ xs else x ∷ change_first p f xs)) [
      | true ↦ λ t. let own : y ≡ f x = rw t at is in rw t (ap (λ (z : A). z ∷ xs) own)
      | false ↦ λ t.
          let k : 1 + position_or_len p xs ≡ suc (position_or_len p xs) = omega arith in
          let more : ltb (position_or_len p xs) (length xs) ≡ true = sym (lt_step (position_or_len p xs) (length xs)) ∙ (rw t at e) in
          let own : y ≡ f (get_or xs (position_or_len p xs) d) = rw (t, k) at is in
          rw (t, k) (ap (λ (ys : List A). x ∷ ys) (set-first p f xs y d more own))
    ] refl

pub first_changed : {A : Type 0} (p : A → Bool) (f : A → A) (xs : List A) (k : ℕ) (y d : A) → Some k ≡ place_where p xs → y ≡ f (get_or xs k d) → set xs k y ≡ change_first p f xs
first_changed {A} p f xs k y d is own =
    let at = placed p xs k is in
    ap (λ (j : ℕ). set xs j y) at.0 ∙ set-first p f xs y d at.1 (own ∙ ap (λ (j : ℕ). f (get_or xs j d)) at.0)

got-first : {A : Type 0} (p : A → Bool) (xs : List A) (d : A) → ltb (position_or_len p xs) (length xs) ≡ true → find p xs ≡ Some (get_or xs (position_or_len p xs) d)
got-first p [] d e = absurd cc
got-first {A} p (x ∷ xs) d e =
    elim (p x) as (λ b. p x ≡ b → (if b then Some x else find p xs) ≡ Some (get_or (x ∷ xs) (position_or_len p (x ∷ xs)) d)) [
      | true ↦ λ t. rw t refl
      | false ↦ λ t.
          let k : 1 + position_or_len p xs ≡ suc (position_or_len p xs) = omega arith in
          rw (t, k) (got-first p xs d (sym (lt_step (position_or_len p xs) (length xs)) ∙ (rw t at e)))
    ] refl

pub first_found : {A : Type 0} (p : A → Bool) (xs : List A) (k : ℕ) (d : A) → Some k ≡ place_where p xs → find p xs ≡ Some (get_or xs k d)
first_found p xs k d is =
    let at = placed p xs k is in got-first p xs d at.1 ∙ ap (λ (j : ℕ). Some (get_or xs j d)) (sym at.0)

pub first_within : {A : Type 0} (p : A → Bool) (xs : List A) (k : ℕ) → Some k ≡ place_where p xs → k < length xs
first_within p xs k is = let at = placed p xs k is in omega (arith, at.0, ltb-true (position_or_len p xs) (length xs) at.1)

-- ---- of each

pub all_set : {A : Type 0} (p : A → Bool) (xs : List A) (k : ℕ) (y : A) → IsTrue (list_all p xs) → IsTrue (p y) → IsTrue (list_all p (set xs k y))
all_set p [] k y all own = refl
all_set p (x ∷ xs) zero y all own = rw own (and_parts (p x) (list_all p xs) all).1
all_set p (x ∷ xs) (suc k) y all own =
    let parts = and_parts (p x) (list_all p xs) all in rw parts.0 (all_set p xs k y parts.1 own)

pub all_removed : {A : Type 0} (p : A → Bool) (xs : List A) (k : ℕ) → IsTrue (list_all p xs) → IsTrue (list_all p (remove xs k))
all_removed p [] zero all = refl
all_removed p [] (suc k) all = refl
all_removed p (x ∷ xs) zero all = (and_parts (p x) (list_all p xs) all).1
all_removed p (x ∷ xs) (suc k) all = let parts = and_parts (p x) (list_all p xs) all in rw parts.0 (all_removed p xs k parts.1)

pub at_each : {A : Type 0} (p : A → Bool) (xs : List A) (k : ℕ) (d : A) → IsTrue (list_all p xs) → k < length xs → IsTrue (p (get_or xs k d))
at_each p [] k d all lt = absurd (omega arith)
at_each p (x ∷ xs) zero d all lt = (and_parts (p x) (list_all p xs) all).0
at_each p (x ∷ xs) (suc k) d all lt = at_each p xs k d (and_parts (p x) (list_all p xs) all).1 (omega (arith, lt))

-- ---- when none may be claimed

or_le : (c : Bool) (e f due : ℕ) → f ≤ e → (c || nat_le e due) ≡ true → (c || nat_le f due) ≡ true
or_le true e f due less h = refl
or_le false e f due less h = le-leb f due (omega (arith, less, leb-true e due h))

pub one_earlier : (e f : ℕ) (row : QueueRow) → IsTrue (is_not_before e row) → f ≤ e → IsTrue (is_not_before f row)
unfolding is_not_before
one_earlier e f row h less = or_le row.claimed e f row.due less h

pub none_earlier : (e f : ℕ) (rows : List QueueRow) → IsTrue (list_all (is_not_before e) rows) → f ≤ e → IsTrue (list_all (is_not_before f) rows)
none_earlier e f [] all less = refl
none_earlier e f (row ∷ rows) all less =
    let parts = and_parts (is_not_before e row) (list_all (is_not_before e) rows) all in
    rw (one_earlier e f row parts.0 less) (none_earlier e f rows parts.1 less)

-- the earlier rows, and one more
pub more_taken : (e f : ℕ) (rows : List QueueRow) (k : ℕ) (row d : QueueRow) → IsTrue (list_all (is_not_before e) (take k rows)) → k < length rows → row ≡ get_or rows k d
    → f ≤ e → IsTrue (is_not_before f row) → IsTrue (list_all (is_not_before f) (take (k + 1) rows))
more_taken e f [] k row d all lt is less own = absurd (omega arith)
more_taken e f (x ∷ rows) zero row d all lt is less own = rw (← is, own) refl
more_taken e f (x ∷ rows) (suc k) row d all lt is less own =
    let next : suc k + 1 ≡ suc (k + 1) = omega arith in
    let parts = and_parts (is_not_before e x) (list_all (is_not_before e) (take k rows)) all in
    rw (next, one_earlier e f x parts.0 less) (more_taken e f rows k row d parts.1 (omega (arith, lt)) is less own)

pub more_not_before : (e f : ℕ) (rows more : List QueueRow) → IsTrue (list_all (is_not_before e) rows) → IsTrue (list_all (is_not_before f) more)
    → IsTrue (list_all (is_not_before (min e f)) (rows ++ more))
more_not_before e f rows more all all_more =
    list_all-append (is_not_before (min e f)) rows more
    ∙ rw (none_earlier e (min e f) rows all (omega arith), none_earlier f (min e f) more all_more (omega arith)) refl

pub more_few : (rows more : List QueueRow) → IsTrue (list_all is_few rows) → IsTrue (list_all is_few more) → IsTrue (list_all is_few (rows ++ more))
more_few rows more all all_more = list_all-append is_few rows more ∙ rw (all, all_more) refl

not-free : (c : Bool) (e m due : ℕ) → m < e → (c || nat_le e due) ≡ true → (not c && nat_le due m) ≡ false
not-free true e m due less h = refl
not-free false e m due less h = lt-leb due m (omega (arith, less, leb-true e due h))

none_free : (e m : ℕ) (rows : List QueueRow) → IsTrue (list_all (is_not_before e) rows) → m < e → list_any (is_free_at m) rows ≡ false
unfolding is_not_before is_free_at
none_free e m [] all less = refl
none_free e m (row ∷ rows) all less =
    let parts = and_parts (is_not_before e row) (list_all (is_not_before e) rows) all in
    rw (not-free row.claimed e m row.due less parts.0) (none_free e m rows parts.1 less)

pub early_none : (e m : ℕ) (rows : List QueueRow) → IsTrue (list_all (is_not_before e) rows) → m < e → find (is_free_at m) rows ≡ None
early_none e m rows all less = find-none (is_free_at m) rows (none_free e m rows all less)

pub early_same : (e m : ℕ) (f : QueueRow → QueueRow) (rows : List QueueRow) → IsTrue (list_all (is_not_before e) rows) → m < e → change_first (is_free_at m) f rows ≡ rows
early_same e m f rows all less = none_changed (is_free_at m) f rows (early_none e m rows all less)

-- ---- changes that leave this

pub few_claimed : (rows : List QueueRow) (k : ℕ) (y d : QueueRow) → IsTrue (list_all is_few rows) → k < length rows → y ≡ claim (get_or rows k d) → IsTrue (list_all is_few (set rows k y))
unfolding is_few
few_claimed rows k y d all lt is = all_set is_few rows k y all (rw is (at_each is_few rows k d all lt))

pub claimed_not_before : (e : ℕ) (rows : List QueueRow) (k : ℕ) (y r : QueueRow) → IsTrue (list_all (is_not_before e) rows) → y ≡ claim r → IsTrue (list_all (is_not_before e) (set rows k y))
unfolding is_not_before
claimed_not_before e rows k y r all is = all_set (is_not_before e) rows k y all (rw is refl)

pub few_after_release : (rows : List QueueRow) (k : ℕ) (y d : QueueRow) → IsTrue (list_all is_few rows) → k < length rows → y ≡ release (get_or rows k d) → IsTrue (list_all is_few (set rows k y))
unfolding is_few
few_after_release rows k y d all lt is = all_set is_few rows k y all (rw is (at_each is_few rows k d all lt))

pub due_not_before : (e due : ℕ) (rows : List QueueRow) (k : ℕ) (y : QueueRow) → IsTrue (list_all (is_not_before e) rows) → y.due ≡ due
    → IsTrue (list_all (is_not_before (min e due)) (set rows k y))
unfolding is_not_before
due_not_before e due rows k y all is =
    all_set (is_not_before (min e due)) rows k y (none_earlier e (min e due) rows all (omega arith)) (by y.claimed)
  where
    by : (c : Bool) → (c || nat_le (min e due) y.due) ≡ true
    by true = refl
    by false = le-leb (min e due) y.due (omega (arith, is))

-- ---- the result of an attempt

pub set_at : (due : ℕ) (rows : List QueueRow) (k : ℕ) (y d : QueueRow) → y ∷ [] ≡ settled (Some due) (get_or rows k d) → k < length rows
    → set rows k y ≡ replace_at k (settled (Some due)) rows
set_at due [] k y d is lt = absurd (omega arith)
set_at due (row ∷ rows) zero y d is lt = ap (λ (ys : List QueueRow). ys ++ rows) is
set_at due (row ∷ rows) (suc k) y d is lt = ap (λ (ys : List QueueRow). row ∷ ys) (set_at due rows k y d is (omega (arith, lt)))

pub removed_at : (rows : List QueueRow) (k : ℕ) → remove rows k ≡ replace_at k (settled None) rows
removed_at [] zero = refl
removed_at [] (suc k) = refl
removed_at (row ∷ rows) zero = refl
removed_at (row ∷ rows) (suc k) = ap (λ (ys : List QueueRow). row ∷ ys) (removed_at rows k)

-- if each row has fewer than eight attempts after one more of this row, this row had fewer than
-- eight before
pub was_few : (rows : List QueueRow) (k due : ℕ) (d : QueueRow) → IsTrue (list_all is_few (replace_at k (settled (Some due)) rows)) → k < length rows → (get_or rows k d).attempts < 8
unfolding is_few
was_few [] k due d all lt = absurd (omega arith)
was_few (row ∷ rows) zero due d all lt =
    omega (arith, ltb-true (row.attempts + 1) 8 (and_parts (nat_lt (row.attempts + 1) 8) (list_all is_few rows) all).0)
was_few (row ∷ rows) (suc k) due d all lt = was_few rows k due d (and_parts (is_few row) (list_all is_few (replace_at k (settled (Some due)) rows)) all).1 (omega (arith, lt))

-- ---- of the row that was found

pub got_or : {A : Type 0} (xs : List A) (k : ℕ) (d : A) → k < length xs → slice_get xs k ≡ Some (get_or xs k d)
got_or [] k d lt = absurd (omega arith)
got_or (x ∷ xs) zero d lt = refl
got_or (x ∷ xs) (suc k) d lt = got_or xs k d (omega (arith, lt))

pub few_at : (p : QueueRow → Bool) (rows : List QueueRow) (k : ℕ) (d : QueueRow) → Some k ≡ place_where p rows → IsTrue (list_all is_few rows) → (get_or rows k d).attempts < 8
unfolding is_few
few_at p rows k d found few = ltb-true (get_or rows k d).attempts 8 (at_each is_few rows k d few (first_within p rows k found))

pub next_got : (p : QueueRow → Bool) (rows : List QueueRow) (k : ℕ) (d : QueueRow) (due : Option ℕ) (came : Came) (m : ℕ) (o : Outcome) → Some k ≡ place_where p rows
    → due ≡ due_of (after_outcome (get_or rows k d).attempts m o) → o ≡ outcome came → IsNext due came m (slice_get rows k)
next_got p rows k d due came m o found next is =
    rw (got_or rows k d (first_within p rows k found)) (next ∙ ap (λ (r : Outcome). due_of (after_outcome (get_or rows k d).attempts m r)) is)

-- releasing the rows does not change whether each has fewer than eight attempts
pub few_released : (rows : List QueueRow) → list_all is_few (map release rows) ≡ list_all is_few rows
unfolding is_few
few_released [] = refl
few_released (row ∷ rows) = rw (few_released rows) refl
