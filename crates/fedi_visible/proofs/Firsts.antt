-- The firsts of a list with one more item at its end.
use Rattle.std.proofs.Common.{◌≡◌, Bool, true, false, List, [], ◌∷◌, ◌++◌, refl, sym, ap, ◌∙◌}
use Rattle.std.specs.Prelude.{◌&&◌, ◌||◌, not, filter, if◌then◌else◌}
use Rattle.std.specs.List.{list_any}
use Rattle.std.proofs.lemmas.List.{append-nil}
use Rattle.std.proofs.lemmas.List.Elements.{filter-append}
use Rattle.fedi_town.specs.Lists.{differs, firsts}

-- nothing, or this one
abbrev pub unless : {A : Type 0} → Bool → A → List A
unless b x = if b then [] else x ∷ []

unless-filtered : {A : Type 0} (same : A → A → Bool) (a x : A) (b : Bool) → filter (differs same a) (unless b x) ≡ unless (same a x || b) x
unfolding differs
unless-filtered same a x true = elim (same a x) as (λ s. [] ≡ unless (s || true) x) [ true ↦ refl | false ↦ refl ]
unless-filtered same a x false = elim (same a x) as (λ s. (if not s then x ∷ [] else []) ≡ unless (s || false) x) [ true ↦ refl | false ↦ refl ]

-- it is one of them unless one of the list is the same
pub firsts_more : {A : Type 0} (same : A → A → Bool) (xs : List A) (x : A) → firsts same (xs ++ x ∷ []) ≡ firsts same xs ++ unless (list_any (λ y. same y x) xs) x
firsts_more same [] x = refl
firsts_more {A} same (a ∷ xs) x =
    ap (λ (ys : List A). a ∷ filter (differs same a) ys) (firsts_more same xs x)
    ∙ ap (λ (ys : List A). a ∷ ys) (filter-append (differs same a) (firsts same xs) (unless (list_any (λ y. same y x) xs) x))
    ∙ ap (λ (ys : List A). a ∷ (filter (differs same a) (firsts same xs) ++ ys)) (unless-filtered same a x (list_any (λ y. same y x) xs))

any-filtered : {A : Type 0} (p q r : A → Bool) → ((x : A) → r x ≡ (p x && q x)) → (xs : List A) → list_any q (filter p xs) ≡ list_any r xs
any-filtered p q r both [] = refl
any-filtered {A} p q r both (x ∷ xs) =
    let rest : list_any q (filter p xs) ≡ list_any r xs = any-filtered p q r both xs in
    rw (both x) (elim (p x) as (λ b. list_any q (if b then x ∷ filter p xs else filter p xs) ≡ ((b && q x) || list_any r xs)) [
      | true ↦ ap (λ (b : Bool). q x || b) rest
      | false ↦ rest
    ])

-- the same for those that pass a test, if r determines which of them are the same
pub filtered_more : {A : Type 0} (same : A → A → Bool) (p r : A → Bool) (xs : List A) (x : A) → ((y : A) → r y ≡ (p y && same y x))
    → firsts same (filter p (xs ++ x ∷ [])) ≡ firsts same (filter p xs) ++ (if p x && not (list_any r xs) then x ∷ [] else [])
filtered_more {A} same p r xs x both =
    ap (firsts same) (filter-append p xs (x ∷ []))
    ∙ elim (p x) as (λ b. firsts same (filter p xs ++ (if b then x ∷ [] else []))
    ≡ firsts same (filter p xs) ++ (if b && not (list_any r xs) then x ∷ [] else [])) [
      | true ↦ firsts_more same (filter p xs) x
          ∙ ap (λ (b : Bool). firsts same (filter p xs) ++ unless b x) (any-filtered p (λ y. same y x) r both xs)
          ∙ elim (list_any r xs) as (λ b. firsts same (filter p xs) ++ unless b x
          ≡ firsts same (filter p xs) ++ (if not b then x ∷ [] else [])) [ true ↦ refl | false ↦ refl ]
      | false ↦ ap (firsts same) (append-nil (filter p xs)) ∙ sym (append-nil (firsts same (filter p xs)))
    ]
