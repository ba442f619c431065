-- A look-up by marks finds what a search among all items finds.
use Rattle.std.proofs.Common.{◌≡◌, ℕ, suc, ◌+◌, ◌≤◌, arith, Bool, true, false, List, [], ◌∷◌, ◌++◌, Option, Some, None, refl, sym, ap, subst, ◌∙◌, append_assoc, eq-eqb, length, ltb, take, Bor}
use Rattle.std.specs.Prelude.{◌||◌, min, nat_eq, is_some, option_copied, if◌then◌else◌}
use Rattle.std.specs.List.{find, list_any, position_or_len}
use Rattle.std.proofs.Math.Seq.{take-length}
use Rattle.std.proofs.lemmas.Bool.{eqb-true, lt-ltb, ltb-false, ltb-true}
use Rattle.std.proofs.lemmas.List.{append-nil, take_all}
use Rattle.std.proofs.lemmas.Option.{slice_get_past}
use Rattle.fedi_register.specs.Changes.{place_where}
use Rattle.fedi_register.specs.Marks.{Mark, first_place, is_there, item_at, marks_from, passes_at}
use Rattle.fedi_register.proofs.Chains.{got_at, longer}
use Rattle.fedi_register.proofs.Once.{lt_step}
use Rattle.fedi_town.proofs.Texts.{and_none}

-- each item that passes has a mark, and it is this one
abbrev pub IsMarkedSo : {A : Type 0} → (A → Bool) → (A → ℕ) → ℕ → (A → Bool) → Type 0
IsMarkedSo {A} p mark n q = (x : A) → q x ≡ true → (p x ≡ true) × (mark x ≡ n)

-- the position of the first item that passes, if the first item has this position
abbrev place_from : {A : Type 0} → (A → Bool) → ℕ → List A → Option ℕ
place_from q n [] = None
place_from q n (x ∷ xs) = if q x then Some n else place_from q (suc n) xs

-- a mark after these items is not found among them
none_past : {A : Type 0} (p q : A → Bool) (mark : A → ℕ) (n : ℕ) (ys xs : List A) (k : ℕ) → length ys ≤ k → first_place (passes_at q ys) n (marks_from p mark k xs) ≡ None
unfolding passes_at
none_past p q mark n ys [] k past = refl
none_past {A} p q mark n ys (x ∷ xs) k past =
    let own : Mark = record { mark = mark x; place = k } in
    let here : passes_at q ys k ≡ false = ap (λ (o : Option A). is_there q o) (slice_get_past ys k past) in
    let rest : first_place (passes_at q ys) n (marks_from p mark (suc k) xs) ≡ None = none_past p q mark n ys xs (suc k) (omega (arith, past)) in
    elim (p x) as (λ b. first_place (passes_at q ys) n (if b then own ∷ marks_from p mark (suc k) xs else marks_from p mark (suc k) xs) ≡ None) [
      | true ↦ rw (here, and_none (nat_eq (mark x) n)) rest
      | false ↦ rest
    ]

placed-after : {A : Type 0} (p q : A → Bool) (mark : A → ℕ) (n : ℕ) → IsMarkedSo p mark n q → (before xs after : List A)
    → first_place (passes_at q (before ++ xs)) n (marks_from p mark (length before) (xs ++ after)) ≡ place_from q (length before) xs
unfolding passes_at
placed-after p q mark n so before [] after = none_past p q mark n (before ++ []) after (length before) (rw append-nil (omega arith))
placed-after {A} p q mark n so before (x ∷ xs) after =
    let all : List A = before ++ x ∷ xs in
    let later : List Mark = marks_from p mark (suc (length before)) (xs ++ after) in
    let own : Mark = record { mark = mark x; place = length before } in
    let rest : first_place (passes_at q all) n later ≡ place_from q (suc (length before)) xs =
    subst (λ (ys : List A). first_place (passes_at q ys) n later ≡ place_from q (suc (length before)) xs) (append_assoc before (x ∷ []) xs)
    (subst (λ (k : ℕ). first_place (passes_at q ((before ++ x ∷ []) ++ xs)) n (marks_from p mark k (xs ++ after)) ≡ place_from q k xs) (longer before x)
    (placed-after p q mark n so (before ++ x ∷ []) xs after)) in
    let here : passes_at q all (length before) ≡ q x = ap (λ (o : Option A). is_there q o) (got_at before x xs) in
    elim (q x) as (λ b. q x ≡ b → first_place (passes_at q all) n (if p x then own ∷ later else later) ≡ (if b then Some (length before) else place_from q (suc (length before)) xs)) [
      | true ↦ λ is. let by = so x is in rw (by.0, eq-eqb (mark x) n by.1, here, is) refl
      | false ↦ λ isnt. elim (p x) as (λ b. first_place (passes_at q all) n (if b then own ∷ later else later) ≡ place_from q (suc (length before)) xs) [
        | true ↦ rw (here, isnt, and_none (nat_eq (mark x) n)) rest
        | false ↦ rest
      ]
    ] refl

placed-all : {A : Type 0} (p q : A → Bool) (mark : A → ℕ) (n : ℕ) → IsMarkedSo p mark n q → (xs : List A) → first_place (passes_at q xs) n (marks_from p mark 0 xs) ≡ place_from q 0 xs
placed-all {A} p q mark n so xs =
    subst (λ (ys : List A). first_place (passes_at q xs) n (marks_from p mark 0 ys) ≡ place_from q 0 xs) (append-nil xs) (placed-after p q mark n so [] xs [])

-- the result as a position among all items
place-position : {A : Type 0} (q : A → Bool) (xs : List A) (k : ℕ)
    → place_from q k xs ≡ (if ltb (position_or_len q xs) (length xs) then Some (position_or_len q xs + k) else None)
place-position q [] k = refl
place-position q (x ∷ xs) k =
    elim (q x) as (λ b. q x ≡ b → (if b then Some k else place_from q (suc k) xs)
    ≡ (if ltb (position_or_len q (x ∷ xs)) (length (x ∷ xs)) then Some (position_or_len q (x ∷ xs) + k) else None)) [
      | true ↦ λ is. let none : 0 + k ≡ k = omega arith in rw (is, lt-ltb 0 (suc (length xs)) (omega arith), none) refl
      | false ↦ λ isnt.
          let more : 1 + position_or_len q xs + k ≡ position_or_len q xs + suc k = omega arith in
          rw (isnt, lt_step (position_or_len q xs) (length xs), more) (place-position q xs (suc k))
    ] refl

-- the position found by marks is that of the first item that passes among all
pub placed : {A : Type 0} (p q : A → Bool) (mark : A → ℕ) (n m : ℕ) (ys xs : List A) (marks : List Mark) (place : Option ℕ)
    → place ≡ first_place (passes_at q ys) n marks → ys ≡ xs → n ≡ m → marks ≡ marks_from p mark 0 xs → IsMarkedSo p mark m q → place ≡ place_where q xs
placed p q mark n m ys xs marks place is same number are so =
    let none : position_or_len q xs + 0 ≡ position_or_len q xs = omega arith in
    rw (is, same, number, are)
    (placed-all p q mark m so xs ∙ place-position q xs 0 ∙ ap (λ (k : ℕ). if ltb (position_or_len q xs) (length xs) then Some k else None) none)

item-found : {A : Type 0} (q : A → Bool) (before xs : List A) → item_at (before ++ xs) (place_from q (length before) xs) ≡ find q xs
item-found q before [] = refl
item-found {A} q before (x ∷ xs) =
    let rest : item_at (before ++ x ∷ xs) (place_from q (suc (length before)) xs) ≡ find q xs =
    subst (λ (ys : List A). item_at ys (place_from q (suc (length before)) xs) ≡ find q xs) (append_assoc before (x ∷ []) xs)
    (subst (λ (k : ℕ). item_at ((before ++ x ∷ []) ++ xs) (place_from q k xs) ≡ find q xs) (longer before x) (item-found q (before ++ x ∷ []) xs)) in
    elim (q x) as (λ b. item_at (before ++ x ∷ xs) (if b then Some (length before) else place_from q (suc (length before)) xs) ≡ (if b then Some x else find q xs)) [
      | true ↦ got_at before x xs
      | false ↦ rest
    ]

-- the item found by marks is the first that passes among all
pub found : {A : Type 0} (p q : A → Bool) (mark : A → ℕ) (n m : ℕ) (ys xs : List A) (marks : List Mark) (got : Option A)
    → got ≡ item_at ys (first_place (passes_at q ys) n marks) → ys ≡ xs → n ≡ m → marks ≡ marks_from p mark 0 xs → IsMarkedSo p mark m q → got ≡ find q xs
found p q mark n m ys xs marks got is same number are so =
    rw (is, same, number, are) (ap (λ (o : Option ℕ). item_at xs o) (placed-all p q mark m so xs) ∙ item-found q [] xs)

-- ---- whether something is found

from-any : {A : Type 0} (q : A → Bool) (k : ℕ) (xs : List A) → is_some (place_from q k xs) ≡ list_any q xs
from-any q k [] = refl
from-any q k (x ∷ xs) =
    elim (q x) as (λ b. is_some (if b then Some k else place_from q (suc k) xs) ≡ (b || list_any q xs)) [
      | true ↦ refl
      | false ↦ from-any q (suc k) xs
    ]

pub take_least : {A : Type 0} (k : ℕ) (xs : List A) (n : ℕ) → n ≡ min k (length xs) → take n xs ≡ take k xs
take_least k xs n least =
    elim (ltb k (length xs)) as (λ b. ltb k (length xs) ≡ b → take n xs ≡ take k xs) [
      | true ↦ λ fewer. let same : n ≡ k = omega (arith, least, ltb-true k (length xs) fewer) in rw same refl
      | false ↦ λ more.
          let past : length xs ≤ k = ltb-false k (length xs) more in
          let all : n ≡ length xs = omega (arith, least, past) in
          rw all (take-length xs ∙ sym (take_all k xs past))
    ] refl

-- something is found by marks among the first items if and only if one of these passes
pub any_found : {A : Type 0} (p q : A → Bool) (mark : A → ℕ) (n m : ℕ) (ys after xs : List A) (marks : List Mark) (any : Bool)
    → any ≡ is_some (first_place (passes_at q ys) n marks) → ys ++ after ≡ xs → n ≡ m → marks ≡ marks_from p mark 0 xs → IsMarkedSo p mark m q → any ≡ list_any q ys
any_found p q mark n m ys after xs marks any is parts number are so =
    rw (is, number, are, ← parts) (ap is_some (placed-after p q mark m so [] ys after) ∙ from-any q 0 ys)

-- without marks, none passes
pub none_found : {A : Type 0} (p q : A → Bool) (mark : A → ℕ) (m : ℕ) (xs : List A) (marks : List Mark)
    → nat_eq (length marks) 0 ≡ true → marks ≡ marks_from p mark 0 xs → IsMarkedSo p mark m q → false ≡ list_any q xs
none_found p q mark m xs [] empty are so = any_found p q mark m m xs [] xs [] false refl (append-nil xs) refl are so
none_found p q mark m xs (own ∷ marks) empty are so = let none = eqb-true (suc (length marks)) 0 empty in absurd (omega (arith, none))

pub some_copied : {T : Type 0} (o : Option (Bor T)) → is_some o ≡ is_some (option_copied o)
some_copied None = refl
some_copied (Some r) = refl

pub some_found : {A : Type 0} (p : A → Bool) (xs : List A) → is_some (find p xs) ≡ list_any p xs
some_found p [] = refl
some_found {A} p (x ∷ xs) =
    elim (p x) as (λ b. is_some (if b then Some x else find p xs) ≡ (b || list_any p xs)) [
      | true ↦ refl
      | false ↦ some_found p xs
    ]
