-- A change of what passes a test is a change at one position if at most one item passes.
use Rattle.std.proofs.Common.{◌≡◌, ℕ, suc, ◌+◌, arith, Bool, true, false, List, [], ◌∷◌, Some, None, refl, sym, ap, ◌∙◌, get_or, set, length, ltb}
use Rattle.std.proofs.lemmas.Bool.{lt-ltb, le-ltb, ltb-true, ltb-false}
use Rattle.std.specs.Prelude.{nat_lt, map, if◌then◌else◌}
use Rattle.std.specs.List.{list_any, position_or_len}
use Rattle.fedi_town.specs.declared.act.Act.{Act}
use Rattle.fedi_town.specs.declared.effect.Effect.TheVariants as effects
use Rattle.fedi_town.specs.Effects.{affect}
use Rattle.fedi_town.specs.Lists.{PassesOnce}
use Rattle.fedi_town.proofs.Finding.{none_changed, map-once}
use Rattle.fedi_register.specs.Changes.{place_where}

-- the position of the first that passes, if any passes
pub placed : {A : Type 0} (p : A → Bool) (xs : List A) (k : ℕ) → Some k ≡ place_where p xs → (k ≡ position_or_len p xs) × (ltb (position_or_len p xs) (length xs) ≡ true)
placed p xs k is =
    elim (ltb (position_or_len p xs) (length xs)) as (λ b. ltb (position_or_len p xs) (length xs) ≡ b → Some k ≡ (if b then Some (position_or_len p xs) else None)
    → (k ≡ position_or_len p xs) × (ltb (position_or_len p xs) (length xs) ≡ true)) [
      | true ↦ λ e f. (let same : k ≡ position_or_len p xs = cc in same, e)
      | false ↦ λ e f. absurd cc
    ] refl is

pub lt_step : (k n : ℕ) → ltb (1 + k) (suc n) ≡ ltb k n
lt_step k n =
    elim (ltb k n) as (λ b. ltb k n ≡ b → ltb (1 + k) (suc n) ≡ b) [
      | true ↦ λ e. lt-ltb (1 + k) (suc n) (omega (arith, ltb-true k n e))
      | false ↦ λ e. le-ltb (1 + k) (suc n) (omega (arith, ltb-false k n e))
    ] refl

pub place_any : {A : Type 0} (p : A → Bool) (xs : List A) → ltb (position_or_len p xs) (length xs) ≡ list_any p xs
place_any p [] = refl
place_any p (x ∷ xs) =
    elim (p x) as (λ b. p x ≡ b → ltb (position_or_len p (x ∷ xs)) (length (x ∷ xs)) ≡ list_any p (x ∷ xs)) [
      | true ↦ λ e. rw e (lt-ltb 0 (suc (length xs)) (omega arith))
      | false ↦ λ e. rw e (lt_step (position_or_len p xs) (length xs) ∙ place_any p xs)
    ] refl

-- the same if the position is known
pub map_at_once : {A : Type 0} (p : A → Bool) (f : A → A) (xs : List A) (i : ℕ) (y d : A) → PassesOnce p xs
    → (if nat_lt (position_or_len p xs) (length xs) then Some (position_or_len p xs) else None) ≡ Some i → y ≡ f (get_or xs i d)
    → set xs i y ≡ map (λ x. if p x then f x else x) xs
map_at_once {A} p f xs i y d once at is =
    elim (ltb (position_or_len p xs) (length xs)) as (λ b. ltb (position_or_len p xs) (length xs) ≡ b → (if b then Some (position_or_len p xs) else None) ≡ Some i → set xs i y ≡ map (λ x. if p x then f x else x) xs) [
      | true ↦ λ e h.
          let place : position_or_len p xs ≡ i = cc in
          let any : list_any p xs ≡ true = sym (place_any p xs) ∙ e in
          let made : y ≡ f (get_or xs (position_or_len p xs) d) = rw place is in
          sym (map-once p f xs once any d ∙ ap (λ (z : A). set xs (position_or_len p xs) z) (sym made) ∙ ap (λ (k : ℕ). set xs k y) place)
      | false ↦ λ e h. absurd cc
    ] refl at

pub map_at_none : {A : Type 0} (p : A → Bool) (f : A → A) (xs : List A)
    → (if nat_lt (position_or_len p xs) (length xs) then Some (position_or_len p xs) else None) ≡ None → xs ≡ map (λ x. if p x then f x else x) xs
map_at_none p f xs at =
    elim (ltb (position_or_len p xs) (length xs)) as (λ b. ltb (position_or_len p xs) (length xs) ≡ b → (if b then Some (position_or_len p xs) else None) ≡ None → xs ≡ map (λ x. if p x then f x else x) xs) [
      | true ↦ λ e h. absurd cc
      | false ↦ λ e h. sym (none_changed p f xs (sym (place_any p xs) ∙ e))
    ] refl at

-- the effect `Nothing` leaves the activities as they are
pub nothing_changes : (acts : List Act) → acts ≡ map (affect effects.Nothing) acts
nothing_changes [] = refl
nothing_changes (x ∷ acts) = ap (λ (xs : List Act). x ∷ xs) (nothing_changes acts)
