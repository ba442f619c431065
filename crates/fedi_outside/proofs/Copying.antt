-- Copying the records of a keeper one by one.
use Rattle.std.proofs.Common.{◌≡◌, ◌≤◌, ◌+◌, ℕ, zero, suc, List, [], ◌∷◌, ◌++◌, length, take, slice_get, Option, None, Some, Result, Ok, Vec, IfOk, IfSome, refl, sym, ap, subst, ◌∙◌, arith}
use Rattle.fedi_outside.specs.Keepers.{Finds}
use Rattle.fedi_outside.specs.declared.keepers.LoadFault.{LoadFault}

-- what a load found is at this index, if the records are reported
pub found_at : {A : Type 0} (records : Option (List (List ℕ))) (result : Result (Option (Vec ℕ A)) LoadFault) (bytes : Vec ℕ A) (place : ℕ) (kept : List (List ℕ)) → records ≡ Some kept
    → IfSome records (λ rs. IfOk result (Finds rs place)) → result ≡ Ok (Some bytes) → slice_get kept place ≡ Some bytes.items
found_at records result bytes place kept is found ok =
    let here = subst (λ o. IfSome o (λ rs. IfOk result (Finds rs place))) is found in
    sym (subst (λ r. IfOk r (Finds kept place)) ok here)

take_more : (kept : List (List ℕ)) (place : ℕ) (r : List ℕ) → slice_get kept place ≡ Some r → take place kept ++ r ∷ [] ≡ take (suc place) kept
take_more [] place r is = absurd (cc is)
take_more (x ∷ xs) zero r is = let same : x ≡ r = cc is in ap (λ (y : List ℕ). y ∷ []) (sym same)
take_more (x ∷ xs) (suc n) r is = ap (λ (l : List (List ℕ)). x ∷ l) (take_more xs n r is)

pub copied_more : (kept : List (List ℕ)) (place : ℕ) (r : List ℕ) → slice_get kept place ≡ Some r → take place kept ++ r ∷ [] ≡ take (place + 1) kept
copied_more kept place r is =
    let next : suc place ≡ place + 1 = omega arith in
    take_more kept place r is ∙ ap (λ (n : ℕ). take n kept) next

take_past : (kept : List (List ℕ)) (place : ℕ) → length kept ≤ place → take place kept ≡ kept
take_past [] zero past = refl
take_past [] (suc n) past = refl
take_past (x ∷ xs) zero past = absurd (omega (arith, past))
take_past (x ∷ xs) (suc n) past = ap (λ (l : List (List ℕ)). x ∷ l) (take_past xs n (omega (arith, past)))

-- after the last record, the copy has all of them
pub copied_all : (records : Option (List (List ℕ))) (copy : List (List ℕ)) (place held : ℕ) → held ≤ place → IfSome records (λ rs. held ≡ length rs)
    → ((kept : List (List ℕ)) → records ≡ Some kept → copy ≡ take place kept) → IfSome records (λ rs. copy ≡ rs)
copied_all None copy place held past count copied = tt
copied_all (Some kept) copy place held past count copied = copied kept refl ∙ take_past kept place (omega (arith, past, count))
