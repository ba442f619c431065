-- Where a host is among others, and what that says of the servers.
use Rattle.std.proofs.Common.{◌≡◌, ◌≢◌, ◌∙◌, ◌<◌, ◌≤◌, ◌+◌, not, ℕ, zero, suc, Bool, true, false, cond, List, [], ◌∷◌, ◌++◌, length, map, None, Some, inl, inr, ⊎_elim, refl, sym, ap, subst, arith}
use Rattle.std.specs.Prelude.{◌⊎◌, nat_lt, position, slice_get, slice_index_or, slice_set}
use Rattle.std.specs.List.{position_or_len}
use Rattle.std.specs.Str.{bytes_eq}
use Rattle.std.proofs.lemmas.Bool.{lt-ltb, ltb-true}
use Rattle.std.proofs.lemmas.Slice.Eq.{bytes_eq-Decides}
use Rattle.fedi_servers.specs.Founding.{index_in}

-- ---- the first that passes a test

in_front : {X : Type 0} (t : Bool) (test : X → Bool) (xs : List X) (k : ℕ)
    → nat_lt (position_or_len test xs) (length xs) ≡ t
    → cond t (Some (position_or_len test xs)) None ≡ Some k → k < length xs
in_front true test xs k inside is =
    let same : position_or_len test xs ≡ k = cc is in
    let less : position_or_len test xs < length xs = ltb-true _ _ inside in
    subst (λ (n : ℕ). n < length xs) same less
in_front false test xs k inside is = absurd (cc is)

pub found_inside : {X : Type 0} (test : X → Bool) (xs : List X) (k : ℕ) → position test xs ≡ Some k
    → k < length xs
found_inside test xs k is = in_front (nat_lt (position_or_len test xs) (length xs)) test xs k refl is

past_end : {X : Type 0} (t : Bool) (test : X → Bool) (xs : List X)
    → nat_lt (position_or_len test xs) (length xs) ≡ t
    → cond t (Some (position_or_len test xs)) None ≡ None
    → (position_or_len test xs < length xs → t ≡ true) → length xs ≤ position_or_len test xs
past_end true test xs inside is known = absurd (cc is)
past_end false test xs inside is known =
    let not_less : position_or_len test xs < length xs → ⊥ = λ less. absurd (cc (known less)) in
    omega (arith, not_less)

none_step : (t : Bool) (p n : ℕ) → suc n ≤ cond (not t) (1 + p) 0
    → (t ≡ false) × (n ≤ p)
none_step true p n past = absurd (omega (arith, past))
none_step false p n past = (refl, omega (arith, past))

none_passes : {X : Type 0} (test : X → Bool) (xs : List X) → length xs ≤ position_or_len test xs
    → (k : ℕ) (x : X) → slice_get xs k ≡ Some x → test x ≡ false
none_passes test [] past k x at = absurd (cc at)
none_passes {X} test (y ∷ xs) past zero x at =
    let same : y ≡ x = cc at in
    let first = none_step (test y) (position_or_len test xs) (length xs) past in
    subst (λ (z : X). test z ≡ false) same first.0
none_passes {X} test (y ∷ xs) past (suc k) x at =
    none_passes test xs (none_step (test y) (position_or_len test xs) (length xs) past).1 k x at

pub found_nowhere : {X : Type 0} (test : X → Bool) (xs : List X) → position test xs ≡ None
    → (k : ℕ) (x : X) → slice_get xs k ≡ Some x → test x ≡ false
found_nowhere test xs is =
    none_passes test xs
    (past_end (nat_lt (position_or_len test xs) (length xs)) test xs refl is (lt-ltb _ _))

-- a host that is nowhere among these is none of them
pub is_new : (hosts : List (List ℕ)) (host : List ℕ) → index_in hosts host ≡ None → (k : ℕ)
    → slice_get hosts k ≢ Some host
is_new hosts host none k at =
    let other : bytes_eq host host ≡ false = found_nowhere (λ own. bytes_eq own host) hosts none k host at in
    let same : bytes_eq host host ≡ true = (bytes_eq-Decides host host).1 refl in
    let clash : true ≡ false = sym same ∙ other in absurd (cc clash)

-- ---- what is there

pub there_is : {X : Type 0} (xs : List X) (k : ℕ) → k < length xs → (x : X) × (slice_get xs k ≡ Some x)
there_is [] k inside = absurd (omega (arith, inside))
there_is (x ∷ xs) zero inside = (x, refl)
there_is (x ∷ xs) (suc k) inside = there_is xs k (omega (arith, inside))

pub map_at : {A B : Type 0} (f : A → B) (xs : List A) (k : ℕ) (x : A) → slice_get xs k ≡ Some x
    → slice_get (map f xs) k ≡ Some (f x)
map_at f [] k x at = absurd (cc at)
map_at f (y ∷ xs) zero x at = let same : y ≡ x = cc at in ap (λ z. Some (f z)) same
map_at f (y ∷ xs) (suc k) x at = map_at f xs k x at

pub index_is : {X : Type 0} (xs : List X) (k : ℕ) (x : X) → k < length xs
    → x ≡ slice_index_or xs k x → slice_get xs k ≡ Some x
index_is [] k x inside is = absurd (omega (arith, inside))
index_is (y ∷ xs) zero x inside is = ap (λ z. Some z) (sym is)
index_is (y ∷ xs) (suc k) x inside is = index_is xs k x (omega (arith, inside)) is

-- one more at the end
pub last_is : {X : Type 0} (P : ℕ → X → Type 0) (xs : List X) (y : X)
    → ((k : ℕ) (x : X) → slice_get xs k ≡ Some x → P k x) → P (length xs) y
    → (k : ℕ) (x : X) → slice_get (xs ++ y ∷ []) k ≡ Some x → P k x
last_is {X} P [] y each last zero x at = let same : y ≡ x = cc at in subst (λ (z : X). P 0 z) same last
last_is P [] y each last (suc k) x at = absurd (cc at)
last_is P (z ∷ xs) y each last zero x at = each zero x at
last_is P (z ∷ xs) y each last (suc k) x at =
    last_is (λ n w. P (suc n) w) xs y (λ n w there. each (suc n) w there) last k x at

pub at_last : {X : Type 0} (xs : List X) (y : X) (k : ℕ) (x : X) → slice_get (xs ++ y ∷ []) k ≡ Some x
    → (slice_get xs k ≡ Some x) ⊎ ((k ≡ length xs) × (x ≡ y))
at_last [] y zero x at = let same : y ≡ x = cc at in inr (refl, sym same)
at_last [] y (suc k) x at = absurd (cc at)
at_last (z ∷ xs) y zero x at = inl at
at_last (z ∷ xs) y (suc k) x at =
    ⊎_elim inl (λ (l : (k ≡ length xs) × (x ≡ y)). inr (ap suc l.0, l.1)) (at_last xs y k x at)

-- ---- one that changes

pub set_from : {X : Type 0} (xs : List X) (n : ℕ) (y : X) (k : ℕ) (x : X)
    → slice_get (slice_set xs n y) k ≡ Some x → (y ≡ x) ⊎ (slice_get xs k ≡ Some x)
set_from [] n y k x at = inr at
set_from (z ∷ xs) zero y zero x at = inl (cc at)
set_from (z ∷ xs) zero y (suc k) x at = inr at
set_from (z ∷ xs) (suc n) y zero x at = inr at
set_from (z ∷ xs) (suc n) y (suc k) x at = set_from xs n y k x at

pub set_other : {X : Type 0} (xs : List X) (n : ℕ) (y : X) (k : ℕ) → n ≢ k
    → slice_get (slice_set xs n y) k ≡ slice_get xs k
set_other [] n y k other = refl
set_other (z ∷ xs) zero y zero other = absurd (other refl)
set_other (z ∷ xs) zero y (suc k) other = refl
set_other (z ∷ xs) (suc n) y zero other = refl
set_other (z ∷ xs) (suc n) y (suc k) other = set_other xs n y k (λ is. other (ap suc is))

-- ---- what is found

found_at : {X : Type 0} (t : Bool) (test : X → Bool) (xs : List X) (k : ℕ)
    → nat_lt (position_or_len test xs) (length xs) ≡ t
    → cond t (Some (position_or_len test xs)) None ≡ Some k
    → (position_or_len test xs ≡ k) × (position_or_len test xs < length xs)
found_at true test xs k inside is = let same : position_or_len test xs ≡ k = cc is in (same, ltb-true _ _ inside)
found_at false test xs k inside is = absurd (cc is)

pass_step : {X : Type 0} (t : Bool) (test : X → Bool) (y : X) (xs : List X) (p : ℕ) (x : X)
    → test y ≡ t → cond (not t) (1 + p) 0 < suc (length xs)
    → slice_get (y ∷ xs) (cond (not t) (1 + p) 0) ≡ Some x
    → (p < length xs → slice_get xs p ≡ Some x → test x ≡ true) → test x ≡ true
pass_step {X} true test y xs p x is inside there more =
    let same : y ≡ x = cc there in subst (λ (z : X). test z ≡ true) same is
pass_step {X} false test y xs p x is inside there more =
    let one : 1 + p ≡ suc p = omega arith in
    more (omega (arith, inside)) (subst (λ (n : ℕ). slice_get (y ∷ xs) n ≡ Some x) one there)

passes_at : {X : Type 0} (test : X → Bool) (xs : List X) (x : X)
    → position_or_len test xs < length xs → slice_get xs (position_or_len test xs) ≡ Some x
    → test x ≡ true
passes_at test [] x inside there = absurd (omega (arith, inside))
passes_at test (y ∷ xs) x inside there =
    pass_step (test y) test y xs (position_or_len test xs) x refl inside there (passes_at test xs x)

pub found_passes : {X : Type 0} (test : X → Bool) (xs : List X) (k : ℕ) (x : X)
    → position test xs ≡ Some k → slice_get xs k ≡ Some x → test x ≡ true
found_passes test xs k x is there =
    let found = found_at (nat_lt (position_or_len test xs) (length xs)) test xs k refl is in
    passes_at test xs x found.1 (subst (λ (n : ℕ). slice_get xs n ≡ Some x) (sym found.0) there)

-- a host that is found is that host
pub found_is : (hosts : List (List ℕ)) (host : List ℕ) (n : ℕ) (own : List ℕ)
    → index_in hosts host ≡ Some n → slice_get hosts n ≡ Some own → own ≡ host
found_is hosts host n own is there =
    (bytes_eq-Decides own host).0 (found_passes (λ (x : List ℕ). bytes_eq x host) hosts n own is there)
