-- Pages and first elements of lists whose elements are each shown.
use Rattle.std.proofs.Common.{◌≡◌, ℕ, ◌*◌, Bool, List, [], ◌∷◌, ◌++◌, take, drop, refl, sym, ap, ◌∙◌}
use Rattle.std.specs.Prelude.{map, filter, reverse}
use Rattle.std.proofs.lemmas.List.{map-append, take-map, drop-map, reverse-append}
use Rattle.fedi_town.proofs.Lists.{filter-through}
use Rattle.fedi_town.specs.Collections.{page_of}
use Rattle.fedi_town.specs.Lists.{differs, firsts}

reverse-map : {A B : Type 0} (f : A → B) (xs : List A) → reverse (map f xs) ≡ map f (reverse xs)
reverse-map f [] = refl
reverse-map {A} {B} f (x ∷ xs) =
    reverse-append (f x ∷ []) (map f xs)
    ∙ ap (λ (ys : List B). ys ++ f x ∷ []) (reverse-map f xs)
    ∙ sym (map-append f (reverse xs) (x ∷ []))
    ∙ ap (map f) (sym (reverse-append (x ∷ []) xs))

pub page_of-map : {A B : Type 0} (f : A → B) (k : ℕ) (xs : List A) → page_of k (map f xs) ≡ map f (page_of k xs)
page_of-map {A} {B} f k xs =
    ap (λ (ys : List B). reverse (take 20 ys)) (drop-map f (20 * k) xs)
    ∙ ap (λ (ys : List B). reverse ys) (take-map f 20 (drop (20 * k) xs))
    ∙ reverse-map f (take 20 (drop (20 * k) xs))

-- ---- the first of each

other-map : {A B : Type 0} (f : A → B) (p : A → A → Bool) (q : B → B → Bool) → ((x y : A) → q (f x) (f y) ≡ p x y) → (x y : A) → differs q (f x) (f y) ≡ differs p x y
unfolding differs
other-map f p q same x y = rw (same x y) refl

pub firsts-map : {A B : Type 0} (f : A → B) (p : A → A → Bool) (q : B → B → Bool) → ((x y : A) → q (f x) (f y) ≡ p x y) → (xs : List A) → firsts q (map f xs) ≡ map f (firsts p xs)
firsts-map f p q same [] = refl
firsts-map {A} {B} f p q same (x ∷ xs) =
    ap (λ (ys : List B). f x ∷ ys)
    (ap (filter (differs q (f x))) (firsts-map f p q same xs)
    ∙ filter-through f (differs q (f x)) (differs p x) (other-map f p q same x) (firsts p xs))
