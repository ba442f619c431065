-- When a host becomes a peer, what is claimed stays claimed: the earlier rows are among the new
-- ones, in order.
use Rattle.std.proofs.Common.{◌≡◌, ◌⊎◌, inl, inr, ℕ, zero, suc, ◌+◌, ◌<◌, ◌≤◌, arith, Bool, true, false, List, [], ◌∷◌, ◌++◌, Option, Some, None, refl, sym, ap, subst, ◌∙◌, eq-eqb, drop, take, length, get_or, set, append_assoc}
use Rattle.std.specs.Prelude.{⊤, ◌&&◌, ◌||◌, map, filter, nat_eq, nat_le, nat_lt, slice_get, if◌then◌else◌}
use Rattle.std.specs.List.{list_all}
use Rattle.std.proofs.lemmas.Bool.{and_parts, ne_eqb, lt-ltb, ltb-true, le-leb, leb-true}
use Rattle.std.proofs.lemmas.List.Folds.{list_all-append}
use Rattle.fedi_queue.specs.declared.rows.QueueRow.{QueueRow}
use Rattle.fedi_queue.specs.Claims.{carried, is_at, release}
use Rattle.fedi_queue.specs.Queues.{is_claimed}
use Rattle.fedi_queue.specs.Rows.{is_reached, row_where, rows_by, rows_from, rows_to}
use Rattle.fedi_queue.proofs.Released.{none_claimed}
use Rattle.fedi_town.specs.declared.act.Act.{Act}
use Rattle.fedi_town.specs.Queues.{Progress, is_at_peer, progress_of, sends}
use Rattle.fedi_town.specs.Queues.{Due, Ended}
use Rattle.fedi_town.specs.Towns.{Town}

-- the first rows are among the second, in order, and those between have other positions
abbrev pub Embeds : List QueueRow → List QueueRow → Type 0
Embeds [] ys = ⊤
Embeds (x ∷ xs) [] = ⊥
Embeds (x ∷ xs) (y ∷ ys) = ((release x ≡ y) × Embeds xs ys) ⊎ ((is_at x.activity x.place y ≡ false) × Embeds (x ∷ xs) ys)

-- ---- what is carried

pub carried_rows : (xs ys : List QueueRow) → map release (carried xs ys) ≡ map release ys
carried_rows xs [] = refl
carried_rows [] (y ∷ ys) = refl
carried_rows (x ∷ xs) (y ∷ ys) =
    elim (is_at x.activity x.place y) as
    (λ b. map release (if b then record y { claimed = x.claimed } ∷ carried xs ys else y ∷ carried (x ∷ xs) ys) ≡ release y ∷ map release ys) [
      | true ↦ ap (λ (rows : List QueueRow). release y ∷ rows) (carried_rows xs ys)
      | false ↦ ap (λ (rows : List QueueRow). release y ∷ rows) (carried_rows (x ∷ xs) ys)
    ]

own-place : (x y : QueueRow) → release x ≡ y → is_at x.activity x.place y ≡ true
unfolding is_at
own-place x y same = rw (← same, eq-eqb x.activity x.activity refl, eq-eqb x.place x.place refl) refl

as-claimed : (x y : QueueRow) → release x ≡ y → record y { claimed = x.claimed } ≡ x
as-claimed x y same = rw (← same) refl

unclaimed : (y : QueueRow) → release y ≡ y → is_claimed y ≡ false
unfolding is_claimed
unclaimed y head = sym (ap (λ (r : QueueRow). r.claimed) head)

pub carried_claims : (xs ys : List QueueRow) → map release ys ≡ ys → Embeds xs ys → filter is_claimed (carried xs ys) ≡ filter is_claimed xs
carried_claims [] [] same embeds = refl
carried_claims [] (y ∷ ys) same embeds = none_claimed (y ∷ ys) same
carried_claims (x ∷ xs) [] same embeds = absurd embeds
carried_claims (x ∷ xs) (y ∷ ys) same embeds =
    let head : release y ≡ y = cc in
    let rest : map release ys ≡ ys = cc in
    elim embeds as (λ _. filter is_claimed (carried (x ∷ xs) (y ∷ ys)) ≡ filter is_claimed (x ∷ xs)) [
      | inl h ↦
          rw (own-place x y h.0, as-claimed x y h.0)
          (elim (is_claimed x) as (λ b. (if b then x ∷ filter is_claimed (carried xs ys) else filter is_claimed (carried xs ys)) ≡ (if b then x ∷ filter is_claimed xs else filter is_claimed xs)) [
            | true ↦ ap (λ (rows : List QueueRow). x ∷ rows) (carried_claims xs ys rest h.1)
            | false ↦ carried_claims xs ys rest h.1
          ])
      | inr h ↦ rw (h.0, unclaimed y head) (carried_claims (x ∷ xs) ys rest h.1)
    ]

pub embeds_claimed : (xs ys : List QueueRow) → Embeds (map release xs) ys → Embeds xs ys
embeds_claimed [] ys embeds = tt
embeds_claimed (x ∷ xs) [] embeds = absurd embeds
embeds_claimed (x ∷ xs) (y ∷ ys) embeds =
    elim embeds as (λ _. Embeds (x ∷ xs) (y ∷ ys)) [
      | inl h ↦ inl (h.0, embeds_claimed xs ys h.1)
      | inr h ↦ inr (h.0, embeds_claimed (x ∷ xs) ys h.1)
    ]

-- ---- rows come in order

-- the row is for a later activity, or for this one and this index or a later one
unfoldable is_past : ℕ → ℕ → QueueRow → Bool
is_past n k x = nat_lt n x.activity || (nat_eq x.activity n && nat_le k x.place)

past-other : (n k : ℕ) (x y : QueueRow) → is_past n (suc k) x ≡ true → y.activity ≡ n → y.place ≡ k → is_at x.activity x.place y ≡ false
unfolding is_past is_at
past-other n k x y past of at =
    elim (nat_lt n x.activity) as (λ b. nat_lt n x.activity ≡ b → (b || (nat_eq x.activity n && nat_le (suc k) x.place)) ≡ true → (nat_eq y.activity x.activity && nat_eq y.place x.place) ≡ false) [
      | true ↦ λ e h. rw (ne_eqb y.activity x.activity (λ same. omega (arith, ltb-true n x.activity e, same, of))) refl
      | false ↦ λ e h.
          let parts = and_parts (nat_eq x.activity n) (nat_le (suc k) x.place) h in
          rw (ne_eqb y.place x.place (λ same. omega (arith, leb-true (suc k) x.place parts.1, same, at))) (none (nat_eq y.activity x.activity))
    ] refl past
  where
    none : (b : Bool) → (b && false) ≡ false
    none true = refl
    none false = refl

skipped : (n k : ℕ) (xs : List QueueRow) (y : QueueRow) (ys : List QueueRow) → list_all (is_past n (suc k)) xs ≡ true → y.activity ≡ n → y.place ≡ k → Embeds xs ys → Embeds xs (y ∷ ys)
skipped n k [] y ys past of at embeds = tt
skipped n k (x ∷ xs) y ys past of at embeds =
    inr (past-other n k x y (and_parts (is_past n (suc k) x) (list_all (is_past n (suc k)) xs) past).0 of at, embeds)

past-here : (n j k : ℕ) (b : Bool) (r : List ℕ) (p : Progress) → j ≤ k → list_all (is_past n j) (row_where b n k r p) ≡ true
unfolding is_past
past-here n j k false r p le = refl
past-here n j k true r (Due a from) le = rw (eq-eqb n n refl, le-leb j k le) (late (nat_lt n n))
  where
    late : (b : Bool) → ((b || true) && true) ≡ true
    late true = refl
    late false = refl
past-here n j k true r (Ended a) le = refl

past-to : (t : Town) (p : List ℕ → Bool) (n j k : ℕ) (id : List ℕ) (m : ℕ) (rs : List (List ℕ)) → j ≤ k → list_all (is_past n j) (rows_to t p n id m k rs) ≡ true
past-to t p n j k id m [] le = refl
past-to t p n j k id m (r ∷ rs) le =
    list_all-append (is_past n j) (row_where (p r) n k r (progress_of t id r m)) (rows_to t p n id m (suc k) rs)
    ∙ rw (past-here n j k (p r) r (progress_of t id r m) le, past-to t p n j (suc k) id m rs (omega (arith, le))) refl

past-row : (n j i k : ℕ) (b : Bool) (r : List ℕ) (p : Progress) → n < i → list_all (is_past n j) (row_where b i k r p) ≡ true
unfolding is_past
past-row n j i k false r p less = refl
past-row n j i k true r (Due a from) less = rw (lt-ltb n i less) refl
past-row n j i k true r (Ended a) less = refl

past-rows : (t : Town) (p : List ℕ → Bool) (n j i k : ℕ) (id : List ℕ) (m : ℕ) (rs : List (List ℕ)) → n < i → list_all (is_past n j) (rows_to t p i id m k rs) ≡ true
past-rows t p n j i k id m [] less = refl
past-rows t p n j i k id m (r ∷ rs) less =
    list_all-append (is_past n j) (row_where (p r) i k r (progress_of t id r m)) (rows_to t p i id m (suc k) rs)
    ∙ rw (past-row n j i k (p r) r (progress_of t id r m) less, past-rows t p n j i (suc k) id m rs less) refl

past-by : (t : Town) (p : List ℕ → Bool) (n j i m : ℕ) (rs : List (List ℕ)) (id : Option (List ℕ)) → n < i → list_all (is_past n j) (rows_by t p i m rs id) ≡ true
past-by t p n j i m rs None less = refl
past-by t p n j i m rs (Some id) less = past-rows t p n j i 0 id m rs less

past-from : (t : Town) (p : List ℕ → Bool) (n j i : ℕ) (xs : List Act) → n < i → list_all (is_past n j) (rows_from t p i xs) ≡ true
past-from t p n j i [] less = refl
past-from t p n j i (x ∷ xs) less =
    list_all-append (is_past n j) (rows_by t p i x.moment (sends t x) x.activity.id) (rows_from t p (suc i) xs)
    ∙ rw (past-by t p n j i x.moment (sends t x) x.activity.id less, past-from t p n j (suc i) xs (omega (arith, less))) refl

-- ---- whoever is reached still is

record IsMore (p q : List ℕ → Bool) : Type 0 where
  still : (r : List ℕ) → p r ≡ true → q r ≡ true

-- one more recipient
one-more : (b c : Bool) (n k : ℕ) (r : List ℕ) (p : Progress) (xs ys : List QueueRow) → (b ≡ true → c ≡ true) → list_all (is_past n (suc k)) xs ≡ true → Embeds xs ys
    → Embeds (row_where b n k r p ++ xs) (row_where c n k r p ++ ys)
one-more true true n k r (Due a from) xs ys still past embeds = inl (refl, embeds)
one-more true true n k r (Ended a) xs ys still past embeds = embeds
one-more true false n k r p xs ys still past embeds = absurd (let wrong : false ≡ true = still refl in cc)
one-more false true n k r (Due a from) xs ys still past embeds = skipped n k xs _ ys past refl refl embeds
one-more false true n k r (Ended a) xs ys still past embeds = embeds
one-more false false n k r p xs ys still past embeds = embeds

past-both : (n j : ℕ) (xs ys : List QueueRow) → list_all (is_past n j) xs ≡ true → list_all (is_past n j) ys ≡ true → list_all (is_past n j) (xs ++ ys) ≡ true
past-both n j xs ys a b = list_all-append (is_past n j) xs ys ∙ rw (a, b) refl

to-embeds : (t : Town) (p q : List ℕ → Bool) (n : ℕ) (id : List ℕ) (m k : ℕ) (rs : List (List ℕ)) (xs ys : List QueueRow) → IsMore p q → ((j : ℕ) → list_all (is_past n j) xs ≡ true) → Embeds xs ys
    → Embeds (rows_to t p n id m k rs ++ xs) (rows_to t q n id m k rs ++ ys)
to-embeds t p q n id m k [] xs ys more past embeds = embeds
to-embeds t p q n id m k (r ∷ rs) xs ys more past embeds =
    let here : Progress = progress_of t id r m in
    let rest = to-embeds t p q n id m (suc k) rs xs ys more past embeds in
    let later : list_all (is_past n (suc k)) (rows_to t p n id m (suc k) rs ++ xs) ≡ true =
    past-both n (suc k) (rows_to t p n id m (suc k) rs) xs (past-to t p n (suc k) (suc k) id m rs (omega arith)) (past (suc k)) in
    subst (λ (zs : List QueueRow). Embeds zs ((row_where (q r) n k r here ++ rows_to t q n id m (suc k) rs) ++ ys))
    (sym (append_assoc (row_where (p r) n k r here) (rows_to t p n id m (suc k) rs) xs))
    (subst (λ (us : List QueueRow). Embeds (row_where (p r) n k r here ++ (rows_to t p n id m (suc k) rs ++ xs)) us)
    (sym (append_assoc (row_where (q r) n k r here) (rows_to t q n id m (suc k) rs) ys))
    (one-more (p r) (q r) n k r here (rows_to t p n id m (suc k) rs ++ xs) (rows_to t q n id m (suc k) rs ++ ys) (more.still r) later rest))

by-embeds : (t : Town) (p q : List ℕ → Bool) (n m : ℕ) (rs : List (List ℕ)) (id : Option (List ℕ)) (xs ys : List QueueRow) → IsMore p q → ((j : ℕ) → list_all (is_past n j) xs ≡ true) → Embeds xs ys
    → Embeds (rows_by t p n m rs id ++ xs) (rows_by t q n m rs id ++ ys)
by-embeds t p q n m rs None xs ys more past embeds = embeds
by-embeds t p q n m rs (Some id) xs ys more past embeds = to-embeds t p q n id m 0 rs xs ys more past embeds

from-embeds : (t : Town) (p q : List ℕ → Bool) (n : ℕ) (xs : List Act) → IsMore p q → Embeds (rows_from t p n xs) (rows_from t q n xs)
from-embeds t p q n [] more = tt
from-embeds t p q n (x ∷ xs) more =
    by-embeds t p q n x.moment (sends t x) x.activity.id (rows_from t p (suc n) xs) (rows_from t q (suc n) xs) more (λ j. past-from t p n j (suc n) xs (omega arith)) (from-embeds t p q (suc n) xs more)

pub peer_embeds : (t : Town) (host : List ℕ) (xs : List Act) → Embeds (rows_from t (is_at_peer t) 0 xs) (rows_from t (is_reached t (Some host)) 0 xs)
unfolding is_reached
peer_embeds t host xs = from-embeds t (is_at_peer t) (is_reached t (Some host)) 0 xs (record { still = λ r e. rw e refl })

-- ---- one after the other

carried-nothing : (ys : List QueueRow) → carried [] ys ≡ ys
carried-nothing [] = refl
carried-nothing (y ∷ ys) = refl

dropped-none : (rows : List QueueRow) (n : ℕ) → slice_get rows n ≡ None → drop n rows ≡ []
dropped-none [] zero none = refl
dropped-none [] (suc n) none = refl
dropped-none (x ∷ rows) zero none = absurd cc
dropped-none (x ∷ rows) (suc n) none = dropped-none rows n none

dropped-some : (rows : List QueueRow) (n : ℕ) (x : QueueRow) → slice_get rows n ≡ Some x → drop n rows ≡ x ∷ drop (n + 1) rows
dropped-some [] n x got = absurd cc
dropped-some (y ∷ rows) zero x got = let same : y ≡ x = cc in rw same refl
dropped-some (y ∷ rows) (suc n) x got =
    let next : suc n + 1 ≡ suc (n + 1) = omega arith in rw next (dropped-some rows n x got)

pub got_within : (rows : List QueueRow) (n : ℕ) (x : QueueRow) → Some x ≡ slice_get rows n → n + 1 ≤ length rows
got_within [] n x got = absurd cc
got_within (y ∷ rows) zero x got = omega arith
got_within (y ∷ rows) (suc n) x got = omega (arith, got_within rows n x got)

pub carried_past : (rows : List QueueRow) (n : ℕ) (y : QueueRow) (rest : List QueueRow) → None ≡ slice_get rows n → carried (drop n rows) (y ∷ rest) ≡ y ∷ carried (drop n rows) rest
carried_past rows n y rest none = rw (dropped-none rows n (sym none)) (ap (λ (ys : List QueueRow). y ∷ ys) (sym (carried-nothing rest)))

pub carried_other : (rows : List QueueRow) (n : ℕ) (x y : QueueRow) (rest : List QueueRow) → Some x ≡ slice_get rows n → is_at x.activity x.place y ≡ false
    → carried (drop n rows) (y ∷ rest) ≡ y ∷ carried (drop n rows) rest
carried_other rows n x y rest got other = rw (dropped-some rows n x (sym got), other) refl

pub carried_same : (rows : List QueueRow) (n : ℕ) (x y z : QueueRow) (rest : List QueueRow) → Some x ≡ slice_get rows n → is_at x.activity x.place y ≡ true → z ≡ record y { claimed = x.claimed }
    → carried (drop n rows) (y ∷ rest) ≡ z ∷ carried (drop (n + 1) rows) rest
carried_same rows n x y z rest got same is = rw (dropped-some rows n x (sym got), same, is) refl

-- the changed part of the list, and the rest
taken-set : (list : List QueueRow) (k : ℕ) (z : QueueRow) → k < length list → take (k + 1) (set list k z) ≡ take k list ++ z ∷ []
taken-set [] k z lt = absurd (omega arith)
taken-set (y ∷ list) zero z lt = refl
taken-set (y ∷ list) (suc k) z lt =
    let next : suc k + 1 ≡ suc (k + 1) = omega arith in rw next (ap (λ (ys : List QueueRow). y ∷ ys) (taken-set list k z (omega (arith, lt))))

dropped-set : (list : List QueueRow) (k : ℕ) (z : QueueRow) → drop (k + 1) (set list k z) ≡ drop (k + 1) list
dropped-set [] k z = refl
dropped-set (y ∷ list) zero z = refl
dropped-set (y ∷ list) (suc k) z = let next : suc k + 1 ≡ suc (k + 1) = omega arith in rw next (dropped-set list k z)

dropped-at : (list : List QueueRow) (k : ℕ) (d : QueueRow) → k < length list → drop k list ≡ get_or list k d ∷ drop (k + 1) list
dropped-at [] k d lt = absurd (omega arith)
dropped-at (y ∷ list) zero d lt = refl
dropped-at (y ∷ list) (suc k) d lt = let next : suc k + 1 ≡ suc (k + 1) = omega arith in rw next (dropped-at list k d (omega (arith, lt)))

pub carried_more : (rows list all : List QueueRow) (n m k : ℕ) (y z d : QueueRow) → k < length list → y ≡ get_or list k d
    → take k list ++ carried (drop n rows) (drop k list) ≡ all → ((rest : List QueueRow) → carried (drop n rows) (y ∷ rest) ≡ z ∷ carried (drop m rows) rest)
    → take (k + 1) (set list k z) ++ carried (drop m rows) (drop (k + 1) (set list k z)) ≡ all
carried_more rows list all n m k y z d lt is so step =
    rw (taken-set list k z lt, dropped-set list k z)
    (append_assoc (take k list) (z ∷ []) (carried (drop m rows) (drop (k + 1) list))
    ∙ ap (λ (ys : List QueueRow). take k list ++ ys) (sym (step (drop (k + 1) list)))
    ∙ ap (λ (ys : List QueueRow). take k list ++ carried (drop n rows) ys) (sym (dropped-at list k d lt ∙ ap (λ (u : QueueRow). u ∷ drop (k + 1) list) (sym is)))
    ∙ so)
