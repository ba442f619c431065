-- The first element that passes a test, and what remains of it after a change or in a part of a
-- list.
use Rattle.std.proofs.Common.{◌≡◌, Bool, true, false, List, [], ◌∷◌, ◌++◌, Option, Some, None, refl, sym, ap, subst, ◌∙◌}
use Rattle.std.specs.Prelude.{◌||◌, filter, if◌then◌else◌}
use Rattle.std.specs.List.{find, list_all, list_any}
use Rattle.std.proofs.lemmas.Bool.{and_parts, false_from_ne_true, or_parts, or_right}
use Rattle.std.proofs.lemmas.List.Folds.{list_any-append}
use Rattle.fedi_queue.specs.Claims.{change_first}
use Rattle.fedi_town.proofs.Texts.{not_both}
use Rattle.fedi_town.specs.Lists.{PassesOnce}
use Rattle.fedi_town.proofs.Lists.{find-past}

-- ---- what is before and after it

-- the first that passes, with the elements before and after it
pub record IsFirstIn {A : Type 0} (p : A → Bool) (xs : List A) (x : A) : Type 0 where
  pub before : List A
  pub after : List A
  pub is : xs ≡ before ++ x ∷ after
  pub none : list_any p before ≡ false
  pub passes : p x ≡ true

pub first_in : {A : Type 0} (p : A → Bool) (xs : List A) (x : A) → find p xs ≡ Some x → IsFirstIn p xs x
first_in p [] x found = absurd cc
first_in {A} p (y ∷ xs) x found =
    elim (p y) as (λ b. p y ≡ b → (if b then Some y else find p xs) ≡ Some x → IsFirstIn p (y ∷ xs) x) [
      | true ↦ λ own e.
          let same : y ≡ x = cc in
          record { before = []; after = xs; is = ap (λ (z : A). z ∷ xs) same; none = refl; passes = subst (λ (z : A). p z ≡ true) same own }
      | false ↦ λ own e.
          let at = first_in p xs x e in
          record { before = y ∷ at.before; after = at.after; is = ap (λ (zs : List A). y ∷ zs) at.is; none = rw own at.none; passes = at.passes }
    ] refl found

-- an element that passes, after others that do not, is found
pub find_at : {A : Type 0} (q : A → Bool) (before : List A) (x : A) (after : List A) → list_any q before ≡ false → q x ≡ true
    → find q (before ++ x ∷ after) ≡ Some x
find_at q before x after none passes = find-past q before (x ∷ after) none ∙ rw passes refl

pub any_there : {A : Type 0} (q : A → Bool) (before : List A) (x : A) (after : List A) → q x ≡ true → list_any q (before ++ x ∷ after) ≡ true
any_there q before x after passes = list_any-append q before (x ∷ after) ∙ or_right (list_any q before) (list_any q (x ∷ after)) (rw passes refl)

-- what is found passes the test
pub found_any : {A : Type 0} (q : A → Bool) (xs : List A) (x : A) → find q xs ≡ Some x → list_any q xs ≡ true
found_any q xs x found = let at = first_in q xs x found in ap (list_any q) at.is ∙ any_there q at.before x at.after at.passes

-- the first that passes is changed
pub changed_in : {A : Type 0} (p : A → Bool) (f : A → A) (before : List A) (x : A) (after : List A) → list_any p before ≡ false → p x ≡ true
    → change_first p f (before ++ x ∷ after) ≡ before ++ f x ∷ after
changed_in p f [] x after none passes = rw passes refl
changed_in {A} p f (y ∷ before) x after none passes =
    let parts = or_parts (p y) (list_any p before) none in
    rw parts.0 (ap (λ (zs : List A). y ∷ zs) (changed_in p f before x after parts.1 passes))

-- one element replaced by another, neither of which passes, does not change which one is found
pub find_beside : {A : Type 0} (q : A → Bool) (before : List A) (x y : A) (after : List A) → q x ≡ false → q y ≡ false
    → find q (before ++ x ∷ after) ≡ find q (before ++ y ∷ after)
find_beside q [] x y after one other = rw (one, other) refl
find_beside {A} q (z ∷ before) x y after one other =
    ap (λ (o : Option A). if q z then Some z else o) (find_beside q before x y after one other)

-- ---- at most one passes

pub any_none : {A : Type 0} (q r : A → Bool) (xs : List A) → ((x : A) → r x ≡ true → q x ≡ true) → list_any q xs ≡ false → list_any r xs ≡ false
any_none q r [] implies none = refl
any_none q r (x ∷ xs) implies none =
    let parts = or_parts (q x) (list_any q xs) none in
    let here : r x ≡ false = false_from_ne_true (r x) (λ own. not_both (q x) (implies x own) parts.0) in
    rw here (any_none q r xs implies parts.1)

-- no other passes
pub once_parts : {A : Type 0} (q : A → Bool) (before : List A) (x : A) (after : List A) → PassesOnce q (before ++ x ∷ after) → q x ≡ true
    → (list_any q before ≡ false) × (list_any q after ≡ false)
once_parts q [] x after once passes = (refl, once.0 passes)
once_parts q (y ∷ before) x after once passes =
    let rest = once_parts q before x after once.1 passes in
    let here : q y ≡ false =
    false_from_ne_true (q y) (λ own. not_both (list_any q (before ++ x ∷ after)) (any_there q before x after passes) (once.0 own)) in
    (rw here rest.0, rest.1)

-- if at most one passes the wider test, and this one does, it alone may pass the narrower one
pub once_only : {A : Type 0} (q r : A → Bool) (before : List A) (x : A) (after : List A) → PassesOnce q (before ++ x ∷ after) → q x ≡ true
    → ((y : A) → r y ≡ true → q y ≡ true) → list_any r (before ++ x ∷ after) ≡ r x
once_only q r before x after once passes implies =
    let parts = once_parts q before x after once passes in
    list_any-append r before (x ∷ after) ∙ rw (any_none q r before implies parts.0, any_none q r after implies parts.1) (or_no (r x))
  where
    or_no : (a : Bool) → (a || false) ≡ a
    or_no true = refl
    or_no false = refl

-- and if it does, it is found
pub once_found : {A : Type 0} (q r : A → Bool) (before : List A) (x : A) (after : List A) → PassesOnce q (before ++ x ∷ after)
    → ((y : A) → r y ≡ true → q y ≡ true) → r x ≡ true
    → find r (before ++ x ∷ after) ≡ Some x
once_found q r before x after once implies passes =
    find_at r before x after (any_none q r before implies (once_parts q before x after once (implies x passes)).0) passes

-- ---- what a filter leaves

-- everything that passes the first test is kept
pub any_kept : {A : Type 0} (q s : A → Bool) (xs : List A) → ((x : A) → q x ≡ true → s x ≡ true) → list_any q (filter s xs) ≡ list_any q xs
any_kept q s [] implies = refl
any_kept {A} q s (x ∷ xs) implies =
    elim (s x) as (λ b. s x ≡ b → list_any q (if b then x ∷ filter s xs else filter s xs) ≡ (q x || list_any q xs)) [
      | true ↦ λ own. ap (λ (b : Bool). q x || b) (any_kept q s xs implies)
      | false ↦ λ own.
          let here : q x ≡ false = false_from_ne_true (q x) (λ passes. not_both (s x) (implies x passes) own) in
          rw here (any_kept q s xs implies)
    ] refl

pub find_kept : {A : Type 0} (q s : A → Bool) (xs : List A) → ((x : A) → q x ≡ true → s x ≡ true) → find q (filter s xs) ≡ find q xs
find_kept q s [] implies = refl
find_kept {A} q s (x ∷ xs) implies =
    elim (s x) as (λ b. s x ≡ b → find q (if b then x ∷ filter s xs else filter s xs) ≡ (if q x then Some x else find q xs)) [
      | true ↦ λ own. ap (λ (o : Option A). if q x then Some x else o) (find_kept q s xs implies)
      | false ↦ λ own.
          let here : q x ≡ false = false_from_ne_true (q x) (λ passes. not_both (s x) (implies x passes) own) in
          rw here (find_kept q s xs implies)
    ] refl

-- nothing that passes the first test is kept
pub any_gone : {A : Type 0} (q s : A → Bool) (xs : List A) → ((x : A) → q x ≡ true → s x ≡ false) → list_any q (filter s xs) ≡ false
any_gone q s [] implies = refl
any_gone {A} q s (x ∷ xs) implies =
    elim (s x) as (λ b. s x ≡ b → list_any q (if b then x ∷ filter s xs else filter s xs) ≡ false) [
      | true ↦ λ own.
          let here : q x ≡ false = false_from_ne_true (q x) (λ passes. not_both (s x) own (implies x passes)) in
          rw here (any_gone q s xs implies)
      | false ↦ λ own. any_gone q s xs implies
    ] refl

-- the first that passes the first test, if it is kept
pub find_left : {A : Type 0} (q s : A → Bool) (xs : List A) (x : A) → find q xs ≡ Some x → s x ≡ true → find q (filter s xs) ≡ Some x
find_left q s [] x found stays = absurd cc
find_left {A} q s (y ∷ xs) x found stays =
    elim (q y) as (λ b. q y ≡ b → (if b then Some y else find q xs) ≡ Some x → find q (filter s (y ∷ xs)) ≡ Some x) [
      | true ↦ λ own e.
          let same : y ≡ x = cc in
          let here : s y ≡ true = subst (λ (z : A). s z ≡ true) (sym same) stays in
          rw (here, own) (ap (λ (z : A). Some z) same)
      | false ↦ λ own e.
          elim (s y) as (λ b. find q (if b then y ∷ filter s xs else filter s xs) ≡ Some x) [
            | true ↦ rw own (find_left q s xs x e stays)
            | false ↦ find_left q s xs x e stays
          ]
    ] refl found

-- ---- tests that agree

-- on the elements that pass a third
pub any_same : {A : Type 0} (w q r : A → Bool) (xs : List A) → list_all w xs ≡ true → ((x : A) → w x ≡ true → q x ≡ r x) → list_any q xs ≡ list_any r xs
any_same w q r [] all same = refl
any_same w q r (x ∷ xs) all same =
    let parts = and_parts (w x) (list_all w xs) all in rw (same x parts.0, any_same w q r xs parts.1 same) refl

-- ---- the first of those that a filter leaves

pub filter_first : {A : Type 0} (p : A → Bool) (xs : List A) (x : A) → find p xs ≡ Some x → (rest : List A) × (filter p xs ≡ x ∷ rest)
filter_first p [] x found = absurd cc
filter_first {A} p (y ∷ xs) x found =
    elim (p y) as (λ b. (if b then Some y else find p xs) ≡ Some x → (rest : List A) × ((if b then y ∷ filter p xs else filter p xs) ≡ x ∷ rest)) [
      | true ↦ λ e. let same : y ≡ x = cc in (filter p xs, ap (λ (z : A). z ∷ filter p xs) same)
      | false ↦ λ e. filter_first p xs x e
    ] found

pub filter_none : {A : Type 0} (p : A → Bool) (xs : List A) → find p xs ≡ None → filter p xs ≡ []
filter_none p [] found = refl
filter_none {A} p (y ∷ xs) found =
    elim (p y) as (λ b. (if b then Some y else find p xs) ≡ None → (if b then y ∷ filter p xs else filter p xs) ≡ []) [
      | true ↦ λ e. absurd cc
      | false ↦ λ e. filter_none p xs e
    ] found
