-- The rows after an attempt: its delivery has at most one row, which is tried again or gone.
use Rattle.std.proofs.Common.{◌≡◌, ℕ, suc, Bool, true, false, List, [], ◌∷◌, ◌++◌, length, Option, Some, None, refl, sym, ap, subst, ◌∙◌, append_assoc}
use Rattle.std.specs.Prelude.{◌&&◌, ◌||◌, not, filter, slice_get, if◌then◌else◌}
use Rattle.std.specs.List.{flat_map, fold, list_all, list_any}
use Rattle.std.specs.Str.{bytes_eq}
use Rattle.std.proofs.lemmas.Bool.{and_parts, or_parts, not-true}
use Rattle.std.proofs.lemmas.List.{append-nil}
use Rattle.std.proofs.lemmas.List.Elements.{filter-append}
use Rattle.std.proofs.lemmas.List.Folds.{list_any-append}
use Rattle.std.proofs.lemmas.List.Sums.{fold_push}
use Rattle.fedi_address.specs.Recipients.{is_among}
use Rattle.fedi_town.proofs.IdsTown.{HasIds}
use Rattle.fedi_queue.specs.declared.rows.QueueRow.{QueueRow}
use Rattle.fedi_queue.specs.Rows.{AttemptsChangeTheirRows, is_row_of, retried, row_of, row_where, rows_by, rows_from, rows_of, rows_to}
use Rattle.fedi_queue.proofs.Addressed.{AreWell, IsKnown, is_well}
use Rattle.fedi_register.specs.Marks.{is_there}
use Rattle.fedi_register.proofs.Chains.{got_at, longer}
use Rattle.fedi_town.proofs.Texts.{bytes_eq-is, bytes_eq-same, is_false}
use Rattle.fedi_town.specs.declared.act.Act.{Act}
use Rattle.fedi_town.specs.declared.act.Attempt.{Attempt}
use Rattle.fedi_town.specs.Lists.{PassesOnce}
use Rattle.fedi_town.specs.Queues.{Progress, after_attempt, is_at_peer, is_of_pair, progress_of, sends}
use Rattle.fedi_town.specs.Queues.{Due, Ended}
use Rattle.fedi_town.specs.Relations.{has_activity_id}
use Rattle.fedi_town.specs.Shapes.{is_each_once}
use Rattle.fedi_town.specs.Towns.{Town}

-- ---- an attempt changes only the progress of its delivery

progress-tried : (t : Town) (a : Attempt) (id r : List ℕ) (m : ℕ)
    → progress_of (record t { attempts = t.attempts ++ a ∷ [] }) id r m ≡ (if is_of_pair id r a then after_attempt (progress_of t id r m) a else progress_of t id r m)
unfolding progress_of
progress-tried t a id r m =
    let p : Attempt → Bool = is_of_pair id r in
    ap (λ (xs : List Attempt). fold after_attempt (Due 0 m) xs) (filter-append p t.attempts (a ∷ []))
    ∙ elim (p a) as
    (λ b. fold after_attempt (Due 0 m) (filter p t.attempts ++ (if b then a ∷ [] else []))
    ≡ (if b then after_attempt (fold after_attempt (Due 0 m) (filter p t.attempts)) a else fold after_attempt (Due 0 m) (filter p t.attempts))) [
      | true ↦ fold_push after_attempt (Due 0 m) (filter p t.attempts) a
      | false ↦ ap (λ (xs : List Attempt). fold after_attempt (Due 0 m) xs) (append-nil (filter p t.attempts))
    ]

bytes_eq-turned : (a b : List ℕ) → bytes_eq a b ≡ bytes_eq b a
bytes_eq-turned a b =
    elim (bytes_eq a b) as (λ s. bytes_eq a b ≡ s → s ≡ bytes_eq b a) [
      | true ↦ λ e. let same : a ≡ b = bytes_eq-is a b e in sym (rw same (bytes_eq-same b))
      | false ↦ λ e. sym (is_false (bytes_eq b a) (λ f. let same : b ≡ a = bytes_eq-is b a f in let own : bytes_eq a b ≡ true = rw same (bytes_eq-same a) in let no : true ≡ false = sym own ∙ e in absurd cc))
    ] refl

-- ---- its rows

-- the activity with this number has this id
record IsNumbered (acts : List Act) (n : ℕ) (id : List ℕ) : Type 0 where
  is : (i : List ℕ) → is_there (has_activity_id i) (slice_get acts n) ≡ bytes_eq id i

row-tried : (acts : List Act) (a : Attempt) (n : ℕ) (id : List ℕ) (place : ℕ) (r : List ℕ) (p : Progress) → IsNumbered acts n id
    → row_of n place r (if is_of_pair id r a then after_attempt p a else p) ≡ flat_map (retried acts a) (row_of n place r p)
unfolding retried is_row_of is_of_pair
row-tried acts a n id place r (Due k from) own =
    sym (append-nil (retried acts a (record { activity = n; place = place; recipient = r; attempts = k; due = from; claimed = false }))
    ∙ rw (own.is a.activity, bytes_eq-turned id a.activity, bytes_eq-turned r a.recipient)
    (elim (bytes_eq a.activity id && bytes_eq a.recipient r) as
    (λ b. (if b then row_of n place r (after_attempt (Due k from) a) else record { activity = n; place = place; recipient = r; attempts = k; due = from; claimed = false } ∷ [])
    ≡ row_of n place r (if b then after_attempt (Due k from) a else Due k from)) [ true ↦ refl | false ↦ refl ]))
row-tried acts a n id place r (Ended k) own =
    elim (bytes_eq a.activity id && bytes_eq a.recipient r) as (λ b. row_of n place r (if b then Ended k else Ended k) ≡ []) [ true ↦ refl | false ↦ refl ]

where-tried : (acts : List Act) (a : Attempt) (b : Bool) (n : ℕ) (id : List ℕ) (place : ℕ) (r : List ℕ) (p : Progress) → IsNumbered acts n id
    → row_where b n place r (if is_of_pair id r a then after_attempt p a else p) ≡ flat_map (retried acts a) (row_where b n place r p)
where-tried acts a true n id place r p own = row-tried acts a n id place r p own
where-tried acts a false n id place r p own = refl

flat-append : {A B : Type 0} (f : A → List B) (xs ys : List A) → flat_map f (xs ++ ys) ≡ flat_map f xs ++ flat_map f ys
flat-append f [] ys = refl
flat-append f (x ∷ xs) ys = ap (λ zs. f x ++ zs) (flat-append f xs ys) ∙ sym (append_assoc (f x) (flat_map f xs) (flat_map f ys))

peer-tried : (t : Town) (a : Attempt) (r : List ℕ) → is_at_peer (record t { attempts = t.attempts ++ a ∷ [] }) r ≡ is_at_peer t r
unfolding is_at_peer
peer-tried t a r = refl

sends-tried : (t : Town) (a : Attempt) (x : Act) → sends (record t { attempts = t.attempts ++ a ∷ [] }) x ≡ sends t x
unfolding sends
sends-tried t a x = refl

-- the town after the attempt
abbrev tried : Town → Attempt → Town
tried t a = record t { attempts = t.attempts ++ a ∷ [] }

to-tried : (t : Town) (a : Attempt) (n : ℕ) (id : List ℕ) (m place : ℕ) (rs : List (List ℕ)) → IsNumbered t.acts n id
    → rows_to (tried t a) (is_at_peer (tried t a)) n id m place rs ≡ flat_map (retried t.acts a) (rows_to t (is_at_peer t) n id m place rs)
to-tried t a n id m place [] own = refl
to-tried t a n id m place (r ∷ rs) own =
    rw (peer-tried t a r, progress-tried t a id r m, where-tried t.acts a (is_at_peer t r) n id place r (progress_of t id r m) own, to-tried t a n id m (suc place) rs own)
    (sym (flat-append (retried t.acts a) (row_where (is_at_peer t r) n place r (progress_of t id r m)) (rows_to t (is_at_peer t) n id m (suc place) rs)))

by-tried : (t : Town) (a : Attempt) (n m : ℕ) (rs : List (List ℕ)) (id : Option (List ℕ)) → ((i : List ℕ) → id ≡ Some i → IsNumbered t.acts n i)
    → rows_by (tried t a) (is_at_peer (tried t a)) n m rs id ≡ flat_map (retried t.acts a) (rows_by t (is_at_peer t) n m rs id)
by-tried t a n m rs None own = refl
by-tried t a n m rs (Some id) own = to-tried t a n id m 0 rs (own id refl)

numbered : (acts before xs : List Act) (x : Act) (id : List ℕ) → acts ≡ before ++ x ∷ xs → x.activity.id ≡ Some id → IsNumbered acts (length before) id
unfolding has_activity_id
numbered acts before xs x id split own = record { is = λ i. rw (split, got_at before x xs, own) refl }

from-tried : (t : Town) (a : Attempt) (before xs : List Act) (n : ℕ) → t.acts ≡ before ++ xs → n ≡ length before
    → rows_from (tried t a) (is_at_peer (tried t a)) n xs ≡ flat_map (retried t.acts a) (rows_from t (is_at_peer t) n xs)
from-tried t a before [] n split count = refl
from-tried t a before (x ∷ xs) n split count =
    let next : t.acts ≡ (before ++ x ∷ []) ++ xs = split ∙ sym (append_assoc before (x ∷ []) xs) in
    let more : suc n ≡ length (before ++ x ∷ []) = ap suc count ∙ sym (longer before x) in
    let own : (i : List ℕ) → x.activity.id ≡ Some i → IsNumbered t.acts n i = λ i is. subst (λ (k : ℕ). IsNumbered t.acts k i) (sym count) (numbered t.acts before xs x i split is) in
    rw (sends-tried t a x, by-tried t a n x.moment (sends t x) x.activity.id own, from-tried t a (before ++ x ∷ []) xs (suc n) next more)
    (sym (flat-append (retried t.acts a) (rows_by t (is_at_peer t) n x.moment (sends t x) x.activity.id) (rows_from t (is_at_peer t) (suc n) xs)))

pub attempts_change : AttemptsChangeTheirRows
unfolding rows_of
attempts_change t a = from-tried t a [] t.acts 0 refl refl

-- ---- a delivery has at most one row

once-append : {A : Type 0} (p : A → Bool) (xs ys : List A) → PassesOnce p xs → PassesOnce p ys → (list_any p xs ≡ true → list_any p ys ≡ false) → PassesOnce p (xs ++ ys)
once-append p [] ys once all none = all
once-append p (x ∷ xs) ys once all none = (
  λ passes. list_any-append p xs ys ∙ rw (once.0 passes, none (rw passes refl)) refl,
  once-append p xs ys once.1 all (λ any. none (rw any (or-true (p x)))),
)
  where
    or-true : (b : Bool) → (b || true) ≡ true
    or-true true = refl
    or-true false = refl

-- the rows of an activity with another id
row-none : (acts : List Act) (b : Bool) (n place : ℕ) (r id s : List ℕ) (p : Progress) → is_there (has_activity_id id) (slice_get acts n) ≡ false → list_any (is_row_of acts id s) (row_where b n place r p) ≡ false
unfolding is_row_of
row-none acts false n place r id s p none = refl
row-none acts true n place r id s (Due k from) none = rw none refl
row-none acts true n place r id s (Ended k) none = refl

to-none : (t : Town) (n : ℕ) (own : List ℕ) (m place : ℕ) (rs : List (List ℕ)) (id s : List ℕ) → is_there (has_activity_id id) (slice_get t.acts n) ≡ false
    → list_any (is_row_of t.acts id s) (rows_to t (is_at_peer t) n own m place rs) ≡ false
to-none t n own m place [] id s none = refl
to-none t n own m place (r ∷ rs) id s none =
    list_any-append (is_row_of t.acts id s) (row_where (is_at_peer t r) n place r (progress_of t own r m)) (rows_to t (is_at_peer t) n own m (suc place) rs)
    ∙ rw (row-none t.acts (is_at_peer t r) n place r id s (progress_of t own r m) none, to-none t n own m (suc place) rs id s none) refl

by-none : (t : Town) (n m : ℕ) (rs : List (List ℕ)) (own : Option (List ℕ)) (id s : List ℕ) → is_there (has_activity_id id) (slice_get t.acts n) ≡ false
    → list_any (is_row_of t.acts id s) (rows_by t (is_at_peer t) n m rs own) ≡ false
by-none t n m rs None id s none = refl
by-none t n m rs (Some own) id s none = to-none t n own m 0 rs id s none

got-there : (acts before xs : List Act) (x : Act) (n : ℕ) (id : List ℕ) → acts ≡ before ++ x ∷ xs → n ≡ length before → is_there (has_activity_id id) (slice_get acts n) ≡ has_activity_id id x
got-there acts before xs x n id split count = rw (split, count, got_at before x xs) refl

from-none : (t : Town) (before xs : List Act) (n : ℕ) (id s : List ℕ) → t.acts ≡ before ++ xs → n ≡ length before → list_any (has_activity_id id) xs ≡ false
    → list_any (is_row_of t.acts id s) (rows_from t (is_at_peer t) n xs) ≡ false
from-none t before [] n id s split count none = refl
from-none t before (x ∷ xs) n id s split count none =
    let parts = or_parts (has_activity_id id x) (list_any (has_activity_id id) xs) none in
    let next : t.acts ≡ (before ++ x ∷ []) ++ xs = split ∙ sym (append_assoc before (x ∷ []) xs) in
    let more : suc n ≡ length (before ++ x ∷ []) = ap suc count ∙ sym (longer before x) in
    list_any-append (is_row_of t.acts id s) (rows_by t (is_at_peer t) n x.moment (sends t x) x.activity.id) (rows_from t (is_at_peer t) (suc n) xs)
    ∙ rw (by-none t n x.moment (sends t x) x.activity.id id s (got-there t.acts before xs x n id split count ∙ parts.0), from-none t (before ++ x ∷ []) xs (suc n) id s next more parts.1) refl

-- the rows to somebody who is not named
row-other : (acts : List Act) (b : Bool) (n place : ℕ) (r id s : List ℕ) (p : Progress) → bytes_eq r s ≡ false → list_any (is_row_of acts id s) (row_where b n place r p) ≡ false
unfolding is_row_of
row-other acts false n place r id s p other = refl
row-other acts true n place r id s (Due k from) other = rw other (none (is_there (has_activity_id id) (slice_get acts n)))
  where
    none : (b : Bool) → ((b && false) || false) ≡ false
    none true = refl
    none false = refl
row-other acts true n place r id s (Ended k) other = refl

to-other : (t : Town) (n : ℕ) (own : List ℕ) (m place : ℕ) (rs : List (List ℕ)) (id s : List ℕ) → is_among s rs ≡ false
    → list_any (is_row_of t.acts id s) (rows_to t (is_at_peer t) n own m place rs) ≡ false
unfolding is_among
to-other t n own m place [] id s none = refl
to-other t n own m place (r ∷ rs) id s none =
    let parts = or_parts (bytes_eq r s) (list_any (λ u. bytes_eq u s) rs) none in
    list_any-append (is_row_of t.acts id s) (row_where (is_at_peer t r) n place r (progress_of t own r m)) (rows_to t (is_at_peer t) n own m (suc place) rs)
    ∙ rw (row-other t.acts (is_at_peer t r) n place r id s (progress_of t own r m) parts.0, to-other t n own m (suc place) rs id s parts.1) refl

row-once : (acts : List Act) (b : Bool) (n place : ℕ) (r id s : List ℕ) (p : Progress) → PassesOnce (is_row_of acts id s) (row_where b n place r p)
row-once acts false n place r id s p = tt
row-once acts true n place r id s (Due k from) = (λ e. refl, tt)
row-once acts true n place r id s (Ended k) = tt

row-named : (acts : List Act) (b : Bool) (n place : ℕ) (r id s : List ℕ) (p : Progress) → list_any (is_row_of acts id s) (row_where b n place r p) ≡ true → r ≡ s
row-named acts b n place r id s p any =
    elim (bytes_eq r s) as (λ c. bytes_eq r s ≡ c → r ≡ s) [
      | true ↦ λ e. bytes_eq-is r s e
      | false ↦ λ e. let no : true ≡ false = sym any ∙ row-other acts b n place r id s p e in absurd cc
    ] refl

to-once : (t : Town) (n : ℕ) (own : List ℕ) (m place : ℕ) (rs : List (List ℕ)) (id s : List ℕ) → is_each_once rs ≡ true
    → PassesOnce (is_row_of t.acts id s) (rows_to t (is_at_peer t) n own m place rs)
to-once t n own m place [] id s once = tt
to-once t n own m place (r ∷ rs) id s once =
    let parts = and_parts (not (is_among r rs)) (is_each_once rs) once in
    let here : Progress = progress_of t own r m in
    once-append (is_row_of t.acts id s) (row_where (is_at_peer t r) n place r here) (rows_to t (is_at_peer t) n own m (suc place) rs)
    (row-once t.acts (is_at_peer t r) n place r id s here)
    (to-once t n own m (suc place) rs id s parts.1)
    (λ any. to-other t n own m (suc place) rs id s
    (subst (λ (u : List ℕ). is_among u rs ≡ false) (row-named t.acts (is_at_peer t r) n place r id s here any) (not-true (is_among r rs) parts.0)))

by-once : (t : Town) (n m : ℕ) (rs : List (List ℕ)) (own : Option (List ℕ)) (id s : List ℕ) → is_each_once rs ≡ true → PassesOnce (is_row_of t.acts id s) (rows_by t (is_at_peer t) n m rs own)
by-once t n m rs None id s once = tt
by-once t n m rs (Some own) id s once = to-once t n own m 0 rs id s once

-- an activity that is sent well goes to nobody twice
well-once : (t : Town) (host : List ℕ) (x : Act) → t.host ≡ Some host → is_well host x ≡ true → is_each_once (sends t x) ≡ true
unfolding is_well sends
well-once t host x hosted well = rw hosted (and_parts _ _ well).1

from-once : (t : Town) (host : List ℕ) (before xs : List Act) (n : ℕ) (id s : List ℕ) → t.host ≡ Some host → t.acts ≡ before ++ xs → n ≡ length before → PassesOnce (has_activity_id id) xs
    → list_all (is_well host) xs ≡ true → PassesOnce (is_row_of t.acts id s) (rows_from t (is_at_peer t) n xs)
from-once t host before [] n id s hosted split count once all = tt
from-once t host before (x ∷ xs) n id s hosted split count once all =
    let parts = and_parts (is_well host x) (list_all (is_well host) xs) all in
    let next : t.acts ≡ (before ++ x ∷ []) ++ xs = split ∙ sym (append_assoc before (x ∷ []) xs) in
    let more : suc n ≡ length (before ++ x ∷ []) = ap suc count ∙ sym (longer before x) in
    let own : List QueueRow = rows_by t (is_at_peer t) n x.moment (sends t x) x.activity.id in
    let there = got-there t.acts before xs x n id split count in
    once-append (is_row_of t.acts id s) own (rows_from t (is_at_peer t) (suc n) xs)
    (by-once t n x.moment (sends t x) x.activity.id id s (well-once t host x hosted parts.0))
    (from-once t host (before ++ x ∷ []) xs (suc n) id s hosted next more once.1 parts.1)
    (λ any. from-none t (before ++ x ∷ []) xs (suc n) id s next more (once.0
    (elim (has_activity_id id x) as (λ b. has_activity_id id x ≡ b → b ≡ true) [
      | true ↦ λ e. refl
      | false ↦ λ e. let no : true ≡ false = sym any ∙ by-none t n x.moment (sends t x) x.activity.id id s (there ∙ e) in absurd cc
    ] refl)))

once-hosted : (t : Town) (h : Option (List ℕ)) (id s : List ℕ) → t.host ≡ h → HasIds h t.acts → AreWell t → PassesOnce (is_row_of t.acts id s) (rows_from t (is_at_peer t) 0 t.acts)
once-hosted t None id s is ids w = subst (λ (xs : List Act). PassesOnce (is_row_of t.acts id s) (rows_from t (is_at_peer t) 0 xs)) (sym ids) tt
once-hosted t (Some host) id s is ids w = from-once t host [] t.acts 0 id s is refl refl (ids.once id) (w.well host is)

-- a delivery has at most one row
pub rows_once : (t : Town) (id s : List ℕ) → IsKnown t → PassesOnce (is_row_of t.acts id s) (rows_of t)
unfolding rows_of
rows_once t id s k = once-hosted t t.host id s refl k.ids k.well
