-- The positions of the activities that pass a test, as a scan finds them.
use Rattle.std.proofs.Common.{◌≡◌, ℕ, suc, ◌+◌, arith, Bool, true, false, List, [], ◌∷◌, ◌++◌, Some, length, take, refl, sym, ap, ◌∙◌}
use Rattle.std.specs.Prelude.{slice_get, if◌then◌else◌}
use Rattle.std.proofs.lemmas.List.{append-nil, length-take-le, take_more}
use Rattle.std.proofs.lemmas.Option.{get_or_from_slice_get, slice_get_within}
use Rattle.fedi_town.specs.declared.act.Act.{Act}
use Rattle.fedi_visible.specs.Places.{places_from}

-- the positions in a longer list begin with those in the shorter one
pub places-more : (p : Act → Bool) (n : ℕ) (acts ys : List Act) → places_from p n (acts ++ ys) ≡ places_from p n acts ++ places_from p (n + length acts) ys
places-more p n [] ys = let here : n + 0 ≡ n = omega arith in rw here refl
places-more p n (x ∷ acts) ys =
    let further : suc n + length acts ≡ n + length (x ∷ acts) = omega arith in
    let rest : places_from p (suc n) (acts ++ ys) ≡ places_from p (suc n) acts ++ places_from p (n + length (x ∷ acts)) ys =
    places-more p (suc n) acts ys ∙ ap (λ (k : ℕ). places_from p (suc n) acts ++ places_from p k ys) further in
    elim (p x) as (λ b. (if b then n ∷ places_from p (suc n) (acts ++ ys) else places_from p (suc n) (acts ++ ys))
    ≡ (if b then n ∷ places_from p (suc n) acts else places_from p (suc n) acts) ++ places_from p (n + length (x ∷ acts)) ys) [
      | true ↦ ap (λ (places : List ℕ). n ∷ places) rest
      | false ↦ rest
    ]

-- one more activity was read
one_read : (p : Act → Bool) (acts : List Act) (n : ℕ) (x : Act) → Some x ≡ slice_get acts n
    → places_from p 0 (take (n + 1) acts) ≡ places_from p 0 (take n acts) ++ (if p x then n ∷ [] else [])
one_read p acts n x at =
    let within = slice_get_within acts n x (sym at) in
    let before : length (take n acts) ≡ n = length-take-le n acts (omega (arith, within)) in
    ap (places_from p 0) (take_more acts n x within ∙ ap (λ (y : Act). take n acts ++ y ∷ []) (get_or_from_slice_get acts n x x (sym at)))
    ∙ places-more p 0 (take n acts) (x ∷ [])
    ∙ ap (λ (k : ℕ). places_from p 0 (take n acts) ++ (if p x then k ∷ [] else [])) (omega (arith, before))

-- it passes, and is among the positions that were found
pub one_found : (p : Act → Bool) (acts : List Act) (n : ℕ) (x : Act) (found more : List ℕ) → Some x ≡ slice_get acts n → p x ≡ true
    → found ≡ places_from p 0 (take n acts) → more ≡ found ++ n ∷ [] → more ≡ places_from p 0 (take (n + 1) acts)
one_found p acts n x found more at passes so_far put =
    put ∙ ap (λ (ps : List ℕ). ps ++ n ∷ []) so_far ∙ sym (one_read p acts n x at ∙ rw passes refl)

-- it does not, and they are as before
pub none_found : (p : Act → Bool) (acts : List Act) (n : ℕ) (x : Act) (found : List ℕ) → Some x ≡ slice_get acts n → p x ≡ false
    → found ≡ places_from p 0 (take n acts) → found ≡ places_from p 0 (take (n + 1) acts)
none_found p acts n x found at fails so_far =
    so_far ∙ sym (one_read p acts n x at ∙ rw fails (append-nil (places_from p 0 (take n acts))))
