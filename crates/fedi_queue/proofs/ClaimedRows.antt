-- The rows of a queue, some of which are claimed: each is of a delivery of its own and has a
-- position of its own.
use Rattle.std.proofs.Common.{inl, inr, ◌⊎◌, ◌≡◌, ◌≤◌, ℕ, zero, suc, arith, Bool, true, false, List, [], ◌∷◌, ◌++◌, length, Option, Some, None, refl, sym, ap, subst, ◌∙◌, append_assoc}
use Rattle.std.specs.Prelude.{◌&&◌, is_some, map, nat_eq, option_and_then, option_to_list, slice_get, if◌then◌else◌}
use Rattle.std.specs.List.{list_all, list_any}
use Rattle.std.specs.Str.{bytes_eq}
use Rattle.std.proofs.lemmas.Bool.{and_parts, eqb-true, or_cases}
use Rattle.std.proofs.lemmas.List.Folds.{list_all-append}
use Rattle.std.proofs.lemmas.List.Sums.{fold_push}
use Rattle.fedi_objects.specs.declared.entry.Entry.{Entry}
use Rattle.fedi_queue.specs.declared.rows.QueueRow.{QueueRow}
use Rattle.fedi_queue.specs.Claims.{is_at, is_claimed_at, release}
use Rattle.fedi_queue.specs.Rows.{id_at, is_row_of, row_where, rows_by, rows_from, rows_of, rows_to}
use Rattle.fedi_queue.proofs.Addressed.{affected_unmoved}
use Rattle.fedi_queue.proofs.Queued.{one_row}
use Rattle.fedi_queue.proofs.Released.{once_released, at_released, of_released}
use Rattle.fedi_town.proofs.Texts.{bytes_eq-is, bytes_eq-same}
use Rattle.fedi_town.specs.declared.act.Act.{Act}
use Rattle.fedi_town.specs.declared.addition.Addition.{Addition}
use Rattle.fedi_town.specs.declared.addition.Addition.TheVariants as additions
use Rattle.fedi_town.specs.Effects.{affect}
use Rattle.fedi_town.specs.Histories.{addition_of, step, town, with_addition, with_recipient}
use Rattle.fedi_town.specs.Legal.{IsLegal}
use Rattle.fedi_town.specs.Lists.{PassesOnce}
use Rattle.fedi_town.specs.Queues.{Progress, is_at_peer, progress_of, sends}
use Rattle.fedi_town.specs.Queues.{Due, Ended}
use Rattle.fedi_town.specs.Relations.{has_activity_id, is_id}
use Rattle.fedi_town.specs.Towns.{Town, empty_town}
use Rattle.fedi_town.proofs.Lists.{any_either, once_both}
use Rattle.fedi_register.proofs.Chains.{longer, got_at}

-- the rows of a town, some of which may be claimed
abbrev pub AreRowsOf : Town → List QueueRow → Type 0
AreRowsOf t rows = map release rows ≡ rows_of t

-- ---- each row has a position of its own

pub claimed_at : (a p : ℕ) (row : QueueRow) → is_claimed_at a p row ≡ true → (row.claimed ≡ true) × (is_at a p row ≡ true)
unfolding is_claimed_at
claimed_at a p row is = and_parts row.claimed (is_at a p row) is

pub at_place : (a p : ℕ) (row : QueueRow) → is_at a p row ≡ true → (row.activity ≡ a) × (row.place ≡ p)
unfolding is_at
at_place a p row at = let parts = and_parts (nat_eq row.activity a) (nat_eq row.place p) at in (eqb-true row.activity a parts.0, eqb-true row.place p parts.1)

any-row : (a p : ℕ) (b : Bool) (n k : ℕ) (r : List ℕ) (g : Progress) → list_any (is_at a p) (row_where b n k r g) ≡ true → (n ≡ a) × (k ≡ p)
unfolding is_at
any-row a p false n k r g any = absurd cc
any-row a p true n k r (Ended j) any = absurd cc
any-row a p true n k r (Due j from) any = by (or_cases (nat_eq n a && nat_eq k p) false any)
  where
    by : ((nat_eq n a && nat_eq k p) ≡ true) ⊎ (false ≡ true) → (n ≡ a) × (k ≡ p)
    by (inl at) = let parts = and_parts (nat_eq n a) (nat_eq k p) at in (eqb-true n a parts.0, eqb-true k p parts.1)
    by (inr wrong) = absurd cc

any-to : (t : Town) (q : List ℕ → Bool) (a p n : ℕ) (id : List ℕ) (m k : ℕ) (rs : List (List ℕ)) → list_any (is_at a p) (rows_to t q n id m k rs) ≡ true
    → (n ≡ a) × (k ≤ p)
any-to t q a p n id m k [] any = absurd cc
any-to t q a p n id m k (r ∷ rs) any =
    elim (any_either (is_at a p) (row_where (q r) n k r (progress_of t id r m)) (rows_to t q n id m (suc k) rs) any) as (λ _. (n ≡ a) × (k ≤ p)) [
      | inl here ↦ let is = any-row a p (q r) n k r (progress_of t id r m) here in (is.0, omega (arith, is.1))
      | inr later ↦ let is = any-to t q a p n id m (suc k) rs later in (is.0, omega (arith, is.1))
    ]

any-by : (t : Town) (q : List ℕ → Bool) (a p n m : ℕ) (rs : List (List ℕ)) (id : Option (List ℕ)) → list_any (is_at a p) (rows_by t q n m rs id) ≡ true → n ≡ a
any-by t q a p n m rs None any = absurd cc
any-by t q a p n m rs (Some id) any = (any-to t q a p n id m 0 rs any).0

any-from : (t : Town) (q : List ℕ → Bool) (a p n : ℕ) (xs : List Act) → list_any (is_at a p) (rows_from t q n xs) ≡ true → n ≤ a
any-from t q a p n [] any = absurd cc
any-from t q a p n (x ∷ xs) any =
    elim (any_either (is_at a p) (rows_by t q n x.moment (sends t x) x.activity.id) (rows_from t q (suc n) xs) any) as (λ _. n ≤ a) [
      | inl here ↦ omega (arith, any-by t q a p n x.moment (sends t x) x.activity.id here)
      | inr later ↦ omega (arith, any-from t q a p (suc n) xs later)
    ]

row-once : (a p : ℕ) (b : Bool) (n k : ℕ) (r : List ℕ) (g : Progress) → PassesOnce (is_at a p) (row_where b n k r g)
row-once a p false n k r g = tt
row-once a p true n k r (Ended j) = tt
row-once a p true n k r (Due j from) = (λ passes. refl, tt)

to-once : (t : Town) (q : List ℕ → Bool) (a p n : ℕ) (id : List ℕ) (m k : ℕ) (rs : List (List ℕ)) → PassesOnce (is_at a p) (rows_to t q n id m k rs)
to-once t q a p n id m k [] = tt
to-once t q a p n id m k (r ∷ rs) =
    once_both (is_at a p) (row_where (q r) n k r (progress_of t id r m)) (rows_to t q n id m (suc k) rs)
    (row-once a p (q r) n k r (progress_of t id r m)) (to-once t q a p n id m (suc k) rs)
    (λ here later. absurd (omega (arith, (any-row a p (q r) n k r (progress_of t id r m) here).1, (any-to t q a p n id m (suc k) rs later).1)))

by-once : (t : Town) (q : List ℕ → Bool) (a p n m : ℕ) (rs : List (List ℕ)) (id : Option (List ℕ)) → PassesOnce (is_at a p) (rows_by t q n m rs id)
by-once t q a p n m rs None = tt
by-once t q a p n m rs (Some id) = to-once t q a p n id m 0 rs

from-once : (t : Town) (q : List ℕ → Bool) (a p n : ℕ) (xs : List Act) → PassesOnce (is_at a p) (rows_from t q n xs)
from-once t q a p n [] = tt
from-once t q a p n (x ∷ xs) =
    once_both (is_at a p) (rows_by t q n x.moment (sends t x) x.activity.id) (rows_from t q (suc n) xs)
    (by-once t q a p n x.moment (sends t x) x.activity.id) (from-once t q a p (suc n) xs)
    (λ here later. absurd (omega (arith, any-by t q a p n x.moment (sends t x) x.activity.id here, any-from t q a p (suc n) xs later)))

places-once : (t : Town) (a p : ℕ) → PassesOnce (is_at a p) (rows_of t)
unfolding rows_of
places-once t a p = from-once t (is_at_peer t) a p 0 t.acts

pub places_of : (t : Town) (rows : List QueueRow) (a p : ℕ) → AreRowsOf t rows → PassesOnce (is_at a p) rows
places_of t rows a p same =
    once_released (is_at a p) rows (at_released a p) (subst (λ (ys : List QueueRow). PassesOnce (is_at a p) ys) (sym same) (places-once t a p))

-- ---- each row is of a delivery of its own

pub one_of : (h : List Entry) (rows : List QueueRow) (id r : List ℕ) → IsLegal h → AreRowsOf (town h) rows → PassesOnce (is_row_of (town h).acts id r) rows
one_of h rows id r legal same =
    let p = is_row_of (town h).acts id r in
    once_released p rows (of_released (town h).acts id r) (subst (λ (ys : List QueueRow). PassesOnce p ys) (sym same) (one_row h id r legal))

-- which delivery that is: the one of the activity with this id
pub of_id : (acts : List Act) (id r : List ℕ) (row : QueueRow) → is_row_of acts id r row ≡ (is_id id (id_at acts row.activity) && bytes_eq row.recipient r)
unfolding is_row_of has_activity_id
of_id acts id r row = by (slice_get acts row.activity) refl
  where
    by : (o : Option Act) → slice_get acts row.activity ≡ o
        → is_row_of acts id r row ≡ (is_id id (option_and_then (λ (x : Act). x.activity.id) o) && bytes_eq row.recipient r)
    by None is = rw is refl
    by (Some x) is = rw is refl

pub of_named : (acts : List Act) (id r : List ℕ) (row : QueueRow) → is_row_of acts id r row ≡ true → (id_at acts row.activity ≡ Some id) × (row.recipient ≡ r)
of_named acts id r row is =
    let parts = and_parts (is_id id (id_at acts row.activity)) (bytes_eq row.recipient r) (sym (of_id acts id r row) ∙ is) in
    (own (id_at acts row.activity) parts.0, bytes_eq-is row.recipient r parts.1)
  where
    own : (o : Option (List ℕ)) → is_id id o ≡ true → o ≡ Some id
    own None is = absurd cc
    own (Some i) is = ap (λ (j : List ℕ). Some j) (bytes_eq-is i id is)

pub named_of : (acts : List Act) (id r : List ℕ) (row : QueueRow) → id_at acts row.activity ≡ Some id → row.recipient ≡ r → is_row_of acts id r row ≡ true
named_of acts id r row at to = of_id acts id r row ∙ rw (at, to, bytes_eq-same id, bytes_eq-same r) refl

-- ---- each row is of an activity with an id

unfoldable pub has_id : List Act → QueueRow → Bool
has_id acts row = is_some (id_at acts row.activity)

row-ids : (acts : List Act) (b : Bool) (n k : ℕ) (r : List ℕ) (g : Progress) → is_some (id_at acts n) ≡ true
    → list_all (has_id acts) (row_where b n k r g) ≡ true
unfolding has_id
row-ids acts false n k r g some = refl
row-ids acts true n k r (Ended j) some = refl
row-ids acts true n k r (Due j from) some = rw some refl

to-ids : (t : Town) (q : List ℕ → Bool) (acts : List Act) (n : ℕ) (id : List ℕ) (m k : ℕ) (rs : List (List ℕ)) → is_some (id_at acts n) ≡ true
    → list_all (has_id acts) (rows_to t q n id m k rs) ≡ true
to-ids t q acts n id m k [] some = refl
to-ids t q acts n id m k (r ∷ rs) some =
    list_all-append (has_id acts) (row_where (q r) n k r (progress_of t id r m)) (rows_to t q n id m (suc k) rs)
    ∙ rw (row-ids acts (q r) n k r (progress_of t id r m) some, to-ids t q acts n id m (suc k) rs some) refl

by-ids : (t : Town) (q : List ℕ → Bool) (acts : List Act) (n m : ℕ) (rs : List (List ℕ)) (id : Option (List ℕ)) → id_at acts n ≡ id
    → list_all (has_id acts) (rows_by t q n m rs id) ≡ true
by-ids t q acts n m rs None is = refl
by-ids t q acts n m rs (Some id) is = to-ids t q acts n id m 0 rs (rw is refl)

from-ids : (t : Town) (q : List ℕ → Bool) (before xs : List Act) (n : ℕ) → t.acts ≡ before ++ xs → n ≡ length before
    → list_all (has_id t.acts) (rows_from t q n xs) ≡ true
from-ids t q before [] n split count = refl
from-ids t q before (x ∷ xs) n split count =
    let next : t.acts ≡ (before ++ x ∷ []) ++ xs = split ∙ sym (append_assoc before (x ∷ []) xs) in
    let more : suc n ≡ length (before ++ x ∷ []) = ap suc count ∙ sym (longer before x) in
    let own : id_at t.acts n ≡ x.activity.id = rw (split, count, got_at before x xs) refl in
    list_all-append (has_id t.acts) (rows_by t q n x.moment (sends t x) x.activity.id) (rows_from t q (suc n) xs)
    ∙ rw (by-ids t q t.acts n x.moment (sends t x) x.activity.id own, from-ids t q (before ++ x ∷ []) xs (suc n) next more) refl

all-released : (acts : List Act) (rows : List QueueRow) → list_all (has_id acts) (map release rows) ≡ list_all (has_id acts) rows
unfolding has_id
all-released acts [] = refl
all-released acts (row ∷ rows) = ap (λ (b : Bool). is_some (id_at acts row.activity) && b) (all-released acts rows)

pub ids_of : (t : Town) (rows : List QueueRow) → AreRowsOf t rows → list_all (has_id t.acts) rows ≡ true
unfolding rows_of
ids_of t rows same =
    sym (all-released t.acts rows) ∙ ap (λ (ys : List QueueRow). list_all (has_id t.acts) ys) same ∙ from-ids t (is_at_peer t) [] t.acts 0 refl refl

-- ---- ids stay when more activities are accepted

mapped-id : (f : Act → Act) (acts more : List Act) (n : ℕ) (id : List ℕ) → ((y : Act) → (f y).activity.id ≡ y.activity.id) → id_at acts n ≡ Some id
    → id_at (map f acts ++ more) n ≡ Some id
mapped-id f [] more n id same at = absurd cc
mapped-id f (y ∷ acts) more zero id same at = same y ∙ at
mapped-id f (y ∷ acts) more (suc n) id same at = mapped-id f acts more n id same at

own-mapped : (f : Act → Act) (acts : List Act) (n : ℕ) (id : List ℕ) → ((y : Act) → (f y).activity.id ≡ y.activity.id) → id_at acts n ≡ Some id
    → id_at (map f acts) n ≡ Some id
own-mapped f [] n id same at = absurd cc
own-mapped f (y ∷ acts) zero id same at = same y ∙ at
own-mapped f (y ∷ acts) (suc n) id same at = own-mapped f acts n id same at

recipient-id : (i owner : List ℕ) (y : Act) → (with_recipient i owner y).activity.id ≡ y.activity.id
recipient-id i owner y =
    let more : Act = record y { recipients = y.recipients ++ owner ∷ [] } in
    elim (has_activity_id i y) as (λ b. (if b then more else y).activity.id ≡ y.activity.id) [ true ↦ refl | false ↦ refl ]

added-id : (t : Town) (a : Addition) (n : ℕ) (id : List ℕ) → id_at t.acts n ≡ Some id → id_at (with_addition t a).acts n ≡ Some id
added-id t additions.Nothing n id at = at
added-id t (additions.Host host) n id at = at
added-id t (additions.Member member) n id at = at
added-id t (additions.Peer peer) n id at = at
added-id t (additions.Activity a) n id at =
    mapped-id (affect a.effect) t.acts (a.act ∷ option_to_list a.answer) n id (λ y. (affected_unmoved a.effect y).own) at
added-id t (additions.Inbox i owner) n id at = own-mapped (with_recipient i owner) t.acts n id (recipient-id i owner) at
added-id t (additions.Attempt attempt) n id at = at

-- an activity keeps its number and its id
pub id_stays : (h : List Entry) (e : Entry) (n : ℕ) (id : List ℕ) → id_at (town h).acts n ≡ Some id → id_at (town (h ++ e ∷ [])).acts n ≡ Some id
id_stays h e n id at =
    ap (λ (t : Town). id_at t.acts n) (fold_push step empty_town h e) ∙ added-id (town h) (addition_of (town h) e) n id at

same-id : (own now : Option (List ℕ)) → is_some own ≡ true → ((id : List ℕ) → own ≡ Some id → now ≡ Some id) → now ≡ own
same-id None now some stays = absurd cc
same-id (Some id) now some stays = stays id refl

-- so a row of an activity with an id remains one of its delivery
pub of_stays : (h : List Entry) (e : Entry) (id r : List ℕ) (row : QueueRow) → has_id (town h).acts row ≡ true
    → is_row_of (town (h ++ e ∷ [])).acts id r row ≡ is_row_of (town h).acts id r row
unfolding has_id
of_stays h e id r row some =
    let now = town (h ++ e ∷ []) in
    of_id now.acts id r row
    ∙ ap (λ (o : Option (List ℕ)). is_id id o && bytes_eq row.recipient r)
    (same-id (id_at (town h).acts row.activity) (id_at now.acts row.activity) some (λ i at. id_stays h e row.activity i at))
    ∙ sym (of_id (town h).acts id r row)
