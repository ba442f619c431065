-- Whether one of the first activities passes a test.
use Rattle.std.proofs.Common.{◌≡◌, ◌<◌, ◌≤◌, ℕ, ◌+◌, Bool, true, false, List, Some, length, take, sym, ap, subst, ◌∙◌}
use Rattle.std.specs.Prelude.{slice_get}
use Rattle.std.specs.List.{list_any}
use Rattle.std.proofs.lemmas.List.{get_or-take, length-take-le}
use Rattle.std.proofs.lemmas.List.Folds.{list_any_at, list_any_more}
use Rattle.std.proofs.lemmas.Option.{get_or_from_slice_get, slice_get_within}

-- one more was checked
pub none_more : {A : Type 0} (p : A → Bool) (xs : List A) (i : ℕ) (x : A) → Some x ≡ slice_get xs i → list_any p (take i xs) ≡ false → p x ≡ false
    → list_any p (take (i + 1) xs) ≡ false
none_more p xs i x at none fails =
    list_any_more p xs i x (slice_get_within xs i x (sym at)) ∙ rw (none, get_or_from_slice_get xs i x x (sym at)) fails

-- this one passes
pub any_here : {A : Type 0} (p : A → Bool) (xs : List A) (i count : ℕ) (x : A) → Some x ≡ slice_get xs i → i < count → count ≤ length xs → p x ≡ true
    → list_any p (take count xs) ≡ true
any_here p xs i count x at within there passes =
    list_any_at p (take count xs) i x (subst (λ (n : ℕ). i < n) (sym (length-take-le count xs there)) within)
    (ap p (get_or-take count xs i x within ∙ get_or_from_slice_get xs i x x (sym at)) ∙ passes)
