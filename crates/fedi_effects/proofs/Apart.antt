-- If each of the strings occurs once, only what was found before them all decides which are new.
use Rattle.std.proofs.Common.{◌≡◌, ℕ, Bool, true, false, List, [], ◌∷◌, ◌++◌, refl, sym, ap, ◌∙◌, append_assoc}
use Rattle.std.specs.Prelude.{◌&&◌, not, map, filter, cond}
use Rattle.std.specs.List.{fold, list_any}
use Rattle.std.specs.Str.{bytes_eq}
use Rattle.std.proofs.lemmas.Bool.{and_parts, not-true}
use Rattle.std.proofs.lemmas.List.{append-nil}
use Rattle.std.proofs.lemmas.List.Folds.{list_any-append}
use Rattle.fedi_address.specs.Recipients.{add_new, is_among}
use Rattle.fedi_town.proofs.Lists.{first_none, other_none, or_none, none_kept}
use Rattle.fedi_town.proofs.Once.{distinct_once}
use Rattle.fedi_town.specs.Addressing.{is_recipient}
use Rattle.fedi_town.specs.Relations.{followers, is_following}
use Rattle.fedi_town.specs.Shapes.{is_each_once}
use Rattle.fedi_town.specs.Towns.{Town}
use Rattle.fedi_town.proofs.Texts.{bytes_eq-swapped}
use Rattle.fedi_effects.specs.Forwards.{is_unfound}
use Rattle.fedi_effects.specs.Gathering.{is_new_recipient, with_reached}

-- ---- found anew

-- it passes the test, and was not found before
abbrev is_new : (List ℕ → Bool) → List (List ℕ) → List ℕ → Bool
is_new q found x = q x && not (is_among x found)

-- one more, if it is new
abbrev with_new : (List ℕ → Bool) → List (List ℕ) → List ℕ → List (List ℕ)
with_new q found x = cond (is_new q found x) (found ++ x ∷ []) found

still-new : (q : List ℕ → Bool) (f x : List ℕ) (found : List (List ℕ)) → bytes_eq f x ≡ false → is_new q (found ++ f ∷ []) x ≡ is_new q found x
unfolding is_among
still-new q f x found other =
    rw (list_any-append (λ u. bytes_eq u x) found (f ∷ []), other, or_none (list_any (λ u. bytes_eq u x) found) false refl) refl

all-still-new : (q : List ℕ → Bool) (f : List ℕ) (found xs : List (List ℕ)) → is_among f xs ≡ false
    → filter (is_new q (found ++ f ∷ [])) xs ≡ filter (is_new q found) xs
unfolding is_among
all-still-new q f found [] none = refl
all-still-new q f found (x ∷ xs) none =
    rw (
      still-new q f x found (bytes_eq-swapped x f (first_none (bytes_eq x f) (is_among f xs) none)),
      all-still-new q f found xs (other_none (bytes_eq x f) (is_among f xs) none),
    ) refl

apart : (q : List ℕ → Bool) (found xs : List (List ℕ)) → is_each_once xs ≡ true → fold (with_new q) found xs ≡ found ++ filter (is_new q found) xs
apart q found [] once = sym (append-nil found)
apart q found (x ∷ xs) once =
    let parts = and_parts (not (is_among x xs)) (is_each_once xs) once in
    elim (is_new q found x) as (λ b. fold (with_new q) (cond b (found ++ x ∷ []) found) xs
    ≡ found ++ cond b (x ∷ filter (is_new q found) xs) (filter (is_new q found) xs)) [
      | true ↦
          apart q (found ++ x ∷ []) xs parts.1
          ∙ ap (λ (ys : List (List ℕ)). (found ++ x ∷ []) ++ ys) (all-still-new q x found xs (not-true (is_among x xs) parts.0))
          ∙ append_assoc found (x ∷ []) (filter (is_new q found) xs)
      | false ↦ apart q found xs parts.1
    ]

-- strings that occur once each
fold-agree : (f g : List (List ℕ) → List ℕ → List (List ℕ)) → ((s : List (List ℕ)) (x : List ℕ) → f s x ≡ g s x) → (s xs : List (List ℕ)) → fold f s xs ≡ fold g s xs
fold-agree f g same s [] = refl
fold-agree f g same s (x ∷ xs) = ap (λ (k : List (List ℕ)). fold f k xs) (same s x) ∙ fold-agree f g same (g s x) xs

add-one : (found : List (List ℕ)) (x : List ℕ) → add_new found x ≡ with_new (λ _. true) found x
add-one found x = elim (is_among x found) as (λ b. cond b found (found ++ x ∷ []) ≡ cond (not b) (found ++ x ∷ []) found) [ true ↦ refl | false ↦ refl ]

pub added_apart : (found xs : List (List ℕ)) → is_each_once xs ≡ true → fold add_new found xs ≡ found ++ filter (is_unfound found) xs
unfolding is_unfound
added_apart found xs once = fold-agree add_new (with_new (λ _. true)) add-one found xs ∙ apart (λ _. true) found xs once

-- ---- followers

-- each follower occurs once
pub followers_once : (t : Town) (b : List ℕ) → is_each_once (followers t b) ≡ true
unfolding followers
followers_once t b = distinct_once (map (λ x. x.author) (filter (is_following b) t.acts))

pub followers_apart : (t : Town) (author b : List ℕ) (found : List (List ℕ))
    → found ++ filter (is_new_recipient t author found) (followers t b) ≡ fold (with_reached t author) found (followers t b)
unfolding with_reached is_new_recipient
followers_apart t author b found = sym (apart (is_recipient t author) found (followers t b) (followers_once t b))

-- if each string occurs once, so does each of those that pass a test
pub once_filtered : (p : List ℕ → Bool) (xs : List (List ℕ)) → is_each_once xs ≡ true → is_each_once (filter p xs) ≡ true
unfolding is_among
once_filtered p [] once = refl
once_filtered p (x ∷ xs) once =
    let parts = and_parts (not (is_among x xs)) (is_each_once xs) once in
    let rest : is_each_once (filter p xs) ≡ true = once_filtered p xs parts.1 in
    elim (p x) as (λ b. is_each_once (cond b (x ∷ filter p xs) (filter p xs)) ≡ true) [
      | true ↦ rw (none_kept (λ u. bytes_eq u x) p xs (not-true (is_among x xs) parts.0)) rest
      | false ↦ rest
    ]
