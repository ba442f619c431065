-- Lists in which each element occurs once, built by adding one element after another.
use Rattle.std.proofs.Common.{◌≡◌, ℕ, Bool, true, false, List, [], ◌∷◌, ◌++◌, refl, sym, ap, subst, ◌∙◌}
use Rattle.std.specs.Prelude.{◌||◌, not, filter, cond, if◌then◌else◌}
use Rattle.std.specs.List.{fold, list_any}
use Rattle.std.specs.Str.{bytes_eq}
use Rattle.std.proofs.lemmas.Bool.{and_parts, not-true, or_parts}
use Rattle.std.proofs.lemmas.Cmp.{nat_list_eq_equiv}
use Rattle.std.proofs.lemmas.List.{append-nil}
use Rattle.std.proofs.lemmas.List.Elements.{filter-append}
use Rattle.std.proofs.lemmas.List.Folds.{list_any-append}
use Rattle.std.proofs.lemmas.List.Sums.{fold-append}
use Rattle.fedi_address.specs.Recipients.{add_new, distinct, is_among}
use Rattle.fedi_town.proofs.Texts.{bytes_eq-is, or_no, or_true}
use Rattle.fedi_town.specs.Lists.{differs, firsts}
use Rattle.fedi_town.specs.Shapes.{is_each_once}

-- the earlier element is the same as this one
unfoldable pub is_same_as : {A : Type 0} → (A → A → Bool) → A → A → Bool
is_same_as same y x = same x y

one-more : {A : Type 0} (b : Bool) (x y : A) (xs : List A) → x ∷ (xs ++ cond (not b) (y ∷ []) []) ≡ (if b then x ∷ xs else (x ∷ xs) ++ y ∷ [])
one-more true x y xs = rw append-nil refl
one-more false x y xs = refl

last_one : {A : Type 0} (same : A → A → Bool) (x y : A) (xs : List A)
    → x ∷ (xs ++ filter (differs same x) (y ∷ [])) ≡ (if same x y || false then x ∷ xs else (x ∷ xs) ++ y ∷ [])
unfolding differs
last_one same x y xs =
    elim (same x y) as (λ b. x ∷ (xs ++ cond (not b) (y ∷ []) []) ≡ (if b || false then x ∷ xs else (x ∷ xs) ++ y ∷ [])) [
      | true ↦ one-more true x y xs
      | false ↦ one-more false x y xs
    ]

or_more : (a b c : Bool) → ((a || b) || c) ≡ (a || (b || c))
or_more true b c = refl
or_more false b c = refl

-- an element added at the end is one of the firsts unless an earlier one is the same
pub firsts-push : {A : Type 0} (same : A → A → Bool) (xs : List A) (y : A)
    → firsts same (xs ++ y ∷ []) ≡ (if list_any (is_same_as same y) xs then firsts same xs else firsts same xs ++ y ∷ [])
unfolding is_same_as
firsts-push same [] y = refl
firsts-push {A} same (x ∷ xs) y =
    elim (list_any (is_same_as same y) xs) as (λ b. list_any (is_same_as same y) xs ≡ b
    → firsts same ((x ∷ xs) ++ y ∷ []) ≡ (if same x y || b then firsts same (x ∷ xs) else firsts same (x ∷ xs) ++ y ∷ [])) [
      | true ↦ λ e.
          ap (λ (ys : List A). x ∷ filter (differs same x) ys) (firsts-push same xs y ∙ rw e refl)
          ∙ sym (ap (λ (b : Bool). if b then firsts same (x ∷ xs) else firsts same (x ∷ xs) ++ y ∷ []) (or_true (same x y)))
      | false ↦ λ e.
          ap (λ (ys : List A). x ∷ filter (differs same x) ys) (firsts-push same xs y ∙ rw e refl)
          ∙ ap (λ (ys : List A). x ∷ ys) (filter-append (differs same x) (firsts same xs) (y ∷ []))
          ∙ last_one same x y (filter (differs same x) (firsts same xs))
    ] refl

-- ---- texts

-- a text that passes a test is among those that pass exactly if it is among all
pub filter-among : (p : List ℕ → Bool) (b : List ℕ) (xs : List (List ℕ)) → p b ≡ true → is_among b (filter p xs) ≡ is_among b xs
unfolding is_among
filter-among p b [] passes = refl
filter-among p b (x ∷ xs) passes =
    elim (bytes_eq x b) as (λ s. bytes_eq x b ≡ s → is_among b (filter p (x ∷ xs)) ≡ (s || is_among b xs)) [
      | true ↦ λ e. let here : p x ≡ true = rw (bytes_eq-is x b e) passes in rw (here, e) refl
      | false ↦ λ e.
          elim (p x) as (λ s. is_among b (cond s (x ∷ filter p xs) (filter p xs)) ≡ is_among b xs) [
            | true ↦ rw e (filter-among p b xs passes)
            | false ↦ filter-among p b xs passes
          ]
    ] refl

-- a text is among the distinct ones exactly if it is among all
among-added : (b : List ℕ) (kept : List (List ℕ)) (x : List ℕ) → is_among b (add_new kept x) ≡ (is_among b kept || bytes_eq x b)
unfolding is_among
among-added b kept x =
    elim (is_among x kept) as (λ s. is_among x kept ≡ s → is_among b (cond s kept (kept ++ x ∷ [])) ≡ (is_among b kept || bytes_eq x b)) [
      | true ↦ λ known. there known (bytes_eq x b) refl
      | false ↦ λ new. behind
    ] refl
  where
    behind : is_among b (kept ++ x ∷ []) ≡ (is_among b kept || bytes_eq x b)
    behind = list_any-append (λ u. bytes_eq u b) kept (x ∷ []) ∙ ap (λ (s : Bool). is_among b kept || s) (or_no (bytes_eq x b))

    there : is_among x kept ≡ true → (s : Bool) → bytes_eq x b ≡ s → is_among b kept ≡ (is_among b kept || s)
    there known true same = subst (λ (y : List ℕ). is_among y kept ≡ (is_among y kept || true)) (bytes_eq-is x b same) (known ∙ sym (or_true (is_among x kept)))
    there known false other = sym (or_no (is_among b kept))

among-folded : (b : List ℕ) (kept xs : List (List ℕ)) → is_among b (fold add_new kept xs) ≡ (is_among b kept || is_among b xs)
unfolding is_among
among-folded b kept [] = sym (or_no (is_among b kept))
among-folded b kept (x ∷ xs) =
    among-folded b (add_new kept x) xs
    ∙ ap (λ (s : Bool). s || is_among b xs) (among-added b kept x)
    ∙ or_more (is_among b kept) (bytes_eq x b) (is_among b xs)

pub once-among : (b : List ℕ) (xs : List (List ℕ)) → is_among b (distinct xs) ≡ is_among b xs
unfolding distinct is_among
once-among b xs = among-folded b [] xs

-- a loop adds a text unless it is among those that it found
pub once-push : (xs : List (List ℕ)) (y : List ℕ) → distinct (xs ++ y ∷ []) ≡ add_new (distinct xs) y
unfolding distinct
once-push xs y = fold-append add_new [] xs (y ∷ [])

-- ---- lists without duplicates

-- a name that is not in a list is not in it after another name is appended either
still_new : (name text : List ℕ) (others : List (List ℕ)) → is_among name others ≡ false → bytes_eq text name ≡ false → is_among name (others ++ text ∷ []) ≡ false
unfolding is_among
still_new name text others new other = rw (list_any-append (λ u. bytes_eq u name) others (text ∷ []), new, other) refl

-- a new name makes no duplicate
once_pushed : (kept : List (List ℕ)) (text : List ℕ) → is_each_once kept ≡ true → is_among text kept ≡ false → is_each_once (kept ++ text ∷ []) ≡ true
unfolding is_among
once_pushed [] text once new = refl
once_pushed (name ∷ others) text once new =
    let first = and_parts (not (is_among name others)) (is_each_once others) once in
    let apart = or_parts (bytes_eq name text) (is_among text others) new in
    let other : bytes_eq text name ≡ false = nat_list_eq_equiv.symm text name ∙ apart.0 in
    let front : is_among name (others ++ text ∷ []) ≡ false = still_new name text others (not-true (is_among name others) first.0) other in
    let rest : is_each_once (others ++ text ∷ []) ≡ true = once_pushed others text first.1 apart.1 in
    rw (front, rest) refl

-- a text is added only if it is new, so no duplicate arises
once_added : (kept : List (List ℕ)) (text : List ℕ) → is_each_once kept ≡ true → is_each_once (add_new kept text) ≡ true
once_added kept text once =
    elim (is_among text kept) as (λ b. is_among text kept ≡ b → is_each_once (cond b kept (kept ++ text ∷ [])) ≡ true)
    [ true ↦ λ _. once | false ↦ once_pushed kept text once ] refl

pub once_folded : (kept texts : List (List ℕ)) → is_each_once kept ≡ true → is_each_once (fold add_new kept texts) ≡ true
once_folded kept [] once = once
once_folded kept (text ∷ texts) once = once_folded (add_new kept text) texts (once_added kept text once)

pub distinct_once : (texts : List (List ℕ)) → is_each_once (distinct texts) ≡ true
unfolding distinct
distinct_once texts = once_folded [] texts refl
