-- An equal item is somewhere in the list, and then it has a first index.
use Prim.Native.Nat.compare
use Rattle.std.proofs.Common.{◌≡◌, ℕ, ◌+◌, ◌<◌, Bool, true, false, List, [], ◌∷◌, length, get_or, refl, ◌∙◌, suc, arith}
use Rattle.std.specs.Prelude.{◌||◌, nat_lt, is_some, cond, Some, None}
use Rattle.std.specs.List.{list_any, position_or_len}
use Rattle.std.specs.Str.{bytes_eq}
use Rattle.std.proofs.lemmas.Bool.{le-leb}
use Rattle.std.proofs.lemmas.List.Folds.{list_any_at}
use Rattle.fedi_address.specs.Recipients.{is_among}
use Rattle.fedi_effects.specs.Gathering.{first_place}

place-any : {A : Type 0} (p : A → Bool) (xs : List A) → nat_lt (position_or_len p xs) (length xs) ≡ list_any p xs
place-any p [] = refl
place-any {A} p (x ∷ xs) =
    elim (p x) as (λ b. p x ≡ b → nat_lt (position_or_len p (x ∷ xs)) (length (x ∷ xs)) ≡ (b || list_any p xs)) [
      | true ↦ λ e. rw e (le-leb 1 (suc (length xs)) (omega arith))
      | false ↦ λ e.
          let k : 1 + position_or_len p xs ≡ suc (position_or_len p xs) = omega arith in
          rw (e, k, compare.suc-suc) (place-any p xs)
    ] refl

some-place : (b : Bool) (n : ℕ) → is_some (cond b (Some n) None) ≡ b
some-place true n = refl
some-place false n = refl

pub first_is_among : (iri : List ℕ) (found : List (List ℕ)) → is_some (first_place (λ u. bytes_eq u iri) found) ≡ is_among iri found
unfolding is_among
first_is_among iri found =
    some-place (nat_lt (position_or_len (λ u. bytes_eq u iri) found) (length found)) (position_or_len (λ u. bytes_eq u iri) found)
    ∙ place-any (λ u. bytes_eq u iri) found

pub among_at : (iri : List ℕ) (found : List (List ℕ)) (i : ℕ) (d : List ℕ) → i < length found → bytes_eq (get_or found i d) iri ≡ true → is_among iri found ≡ true
unfolding is_among
among_at iri found i d lt same = list_any_at (λ u. bytes_eq u iri) found i d lt same
