-- Activities that pass a test are among the candidates, in order.
use Rattle.std.proofs.Common.{◌≡◌, ℕ, suc, ◌+◌, arith, Bool, true, false, List, [], ◌∷◌, Option, Some, None, refl, ap, subst, ◌∙◌}
use Rattle.std.specs.Prelude.{filter, map, slice_get, if◌then◌else◌}
use Rattle.std.specs.List.{fold}
use Rattle.fedi_town.specs.declared.act.Act.{Act}
use Rattle.fedi_visible.specs.Places.{places_from}

-- the list is what follows from this position on
record GoesOn (acts : List Act) (n : ℕ) (xs : List Act) : Type 0 where
  there : (i : ℕ) (x : Act) → slice_get xs i ≡ Some x → slice_get acts (n + i) ≡ Some x

first_there : (acts : List Act) (n : ℕ) (x : Act) (xs : List Act) → GoesOn acts n (x ∷ xs) → slice_get acts n ≡ Some x
first_there acts n x xs g =
    let here : n + 0 ≡ n = omega arith in
    subst (λ (k : ℕ). slice_get acts k ≡ Some x) here (g.there 0 x refl)

rest_there : (acts : List Act) (n : ℕ) (x : Act) (xs : List Act) → GoesOn acts n (x ∷ xs) → GoesOn acts (suc n) xs
rest_there acts n x xs g = record {
  there = λ i y at.
      let further : n + suc i ≡ suc n + i = omega arith in
      subst (λ (k : ℕ). slice_get acts k ≡ Some y) further (g.there (suc i) y at);
}

-- the activity was found, and passes
abbrev pub passes_found : (Act → Bool) → Option Act → Bool
passes_found p None = false
passes_found p (Some x) = p x

-- there is an activity at the position, and it passes
abbrev pub passes_at : (Act → Bool) → List Act → ℕ → Bool
passes_at p acts place = passes_found p (slice_get acts place)

one_place : (acts : List Act) (p : Act → Bool) (n : ℕ) (x : Act) (b : Bool) (ps : List ℕ) → slice_get acts n ≡ Some x → p x ≡ b
    → filter (passes_at p acts) (n ∷ ps) ≡ (if b then n ∷ filter (passes_at p acts) ps else filter (passes_at p acts) ps)
one_place acts p n x b ps here is = rw (here, is) refl

passing : (acts : List Act) (p q : Act → Bool) → ((x : Act) → p x ≡ true → q x ≡ true) → (n : ℕ) (xs : List Act) → GoesOn acts n xs
    → map (slice_get acts) (filter (passes_at p acts) (places_from q n xs)) ≡ map Some (filter p xs)
passing acts p q candidate n [] g = refl
passing acts p q candidate n (x ∷ xs) g =
    let here : slice_get acts n ≡ Some x = first_there acts n x xs g in
    let ps : List ℕ = places_from q (suc n) xs in
    let rest : map (slice_get acts) (filter (passes_at p acts) ps) ≡ map Some (filter p xs) = passing acts p q candidate (suc n) xs (rest_there acts n x xs g) in
    let Goal : Type 0 = map (slice_get acts) (filter (passes_at p acts) (places_from q n (x ∷ xs))) ≡ map Some (filter p (x ∷ xs)) in
    elim (p x) as (λ b. p x ≡ b → Goal) [
      | true ↦ λ is.
          rw (candidate x is, is)
          (ap (map (slice_get acts)) (one_place acts p n x true ps here is)
          ∙ ap (λ (o : Option Act). o ∷ map (slice_get acts) (filter (passes_at p acts) ps)) here
          ∙ ap (λ (os : List (Option Act)). Some x ∷ os) rest)
      | false ↦ λ is.
          elim (q x) as (λ b. q x ≡ b → Goal) [
            | true ↦ λ e. rw (e, is) (ap (map (slice_get acts)) (one_place acts p n x false ps here is) ∙ rest)
            | false ↦ λ e. rw (e, is) rest
          ] refl
    ] refl

-- the activities that pass are those at the candidates that pass
pub passing_candidates : (acts : List Act) (p q : Act → Bool) → ((x : Act) → p x ≡ true → q x ≡ true)
    → map (slice_get acts) (filter (passes_at p acts) (places_from q 0 acts)) ≡ map Some (filter p acts)
passing_candidates acts p q candidate =
    passing acts p q candidate 0 acts (record { there = λ i x at. let from_none : 0 + i ≡ i = omega arith in rw from_none at })

-- ---- a fold over what passes

pub fold-filtered : {A S : Type 0} (f g : S → A → S) (p : A → Bool) → ((s : S) (x : A) → f s x ≡ (if p x then g s x else s)) → (s : S) (xs : List A)
    → fold f s xs ≡ fold g s (filter p xs)
fold-filtered f g p step s [] = refl
fold-filtered {A} {S} f g p step s (x ∷ xs) =
    elim (p x) as (λ b. p x ≡ b → fold f s (x ∷ xs) ≡ fold g s (filter p (x ∷ xs))) [
      | true ↦ λ is. rw is (ap (λ (u : S). fold f u xs) (step s x ∙ rw is refl) ∙ fold-filtered f g p step (g s x) xs)
      | false ↦ λ is. rw is (ap (λ (u : S). fold f u xs) (step s x ∙ rw is refl) ∙ fold-filtered f g p step s xs)
    ] refl
