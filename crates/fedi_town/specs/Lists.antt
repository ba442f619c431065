-- Lists in which each element occurs once, or in which at most one passes a test.
use Rattle.std.specs.Prelude.{◌≡◌, Bool, true, false, not, List, [], ◌∷◌, filter}
use Rattle.std.specs.List.{list_any}

-- it differs from this one
unfoldable pub differs : {A : Type 0} → (A → A → Bool) → A → A → Bool
differs same x y = not (same x y)

-- the first of each: an element, and those of the firsts after it that differ from it
abbrev pub firsts : {A : Type 0} → (A → A → Bool) → List A → List A
firsts same [] = []
firsts same (x ∷ xs) = x ∷ filter (differs same x) (firsts same xs)

-- at most one passes the test
abbrev pub PassesOnce : {A : Type 0} → (A → Bool) → List A → Type 0
PassesOnce p [] = Unit {0}
PassesOnce p (x ∷ xs) = (p x ≡ true → list_any p xs ≡ false) × PassesOnce p xs
