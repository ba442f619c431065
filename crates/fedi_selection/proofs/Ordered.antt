-- A list whose numbers rise is the only one of its elements whose numbers do not fall.
use Rattle.std.proofs.Common.{◌≡◌, ◌⊎◌, inl, inr, ℕ, zero, suc, ◌+◌, ◌<◌, ◌≤◌, nat_le, List, [], ◌∷◌, length, true, false, cond, refl, ap, ◌∙◌, arith}
use Rattle.std.proofs.lemmas.Bool.Decides.{nat_tests}
use Rattle.std.specs.List.{AllByRecursion}

module _ {X : Type 0} (m : X → ℕ) (P : X → Type 0) (one : (a b : X) → P a → P b → m a ≡ m b → a ≡ b) where
  abbrev pub Rises : List X → Type 0
  Rises [] = Unit {0}
  Rises (x ∷ xs) = AllByRecursion (λ y. m x < m y) xs × Rises xs

  abbrev pub NeverFalls : List X → Type 0
  NeverFalls [] = Unit {0}
  NeverFalls (x ∷ xs) = AllByRecursion (λ y. m x ≤ m y) xs × NeverFalls xs

  -- how many numbers are at most this one
  abbrev pub up_to : ℕ → List X → ℕ
  up_to n [] = 0
  up_to n (x ∷ xs) = cond (nat_le (m x) n) 1 0 + up_to n xs

  weaker : (n : ℕ) (x : X) (xs : List X) → n < m x → AllByRecursion (λ y. m x ≤ m y) xs → up_to n xs ≡ 0
  weaker n x [] low all = refl
  weaker n x (y ∷ xs) low all =
      let above : nat_le (m y) n ≡ false = grind (arith, nat_tests, low, all.0) in
      rw above (let rest = weaker n x xs low all.1 in omega (arith, rest))

  strictly : (x : X) (xs : List X) → AllByRecursion (λ y. m x < m y) xs → AllByRecursion (λ y. m x ≤ m y) xs
  strictly x [] all = tt
  strictly x (y ∷ xs) all = (let low = all.0 in omega (arith, low), strictly x xs all.1)

  above_head : (n : ℕ) (x : X) (xs : List X) → n < m x → AllByRecursion (λ y. m x ≤ m y) xs → up_to n (x ∷ xs) ≡ 0
  above_head n x xs low all = let over : nat_le (m x) n ≡ false = grind (arith, nat_tests, low) in rw over (let rest = weaker n x xs low all in omega (arith, rest))

  own_head : (x : X) (xs : List X) → 0 < up_to (m x) (x ∷ xs)
  own_head x xs = let at : nat_le (m x) (m x) ≡ true = grind (arith, nat_tests) in rw at (omega arith)

  heads : (x : X) (xs : List X) (y : X) (ys : List X) → AllByRecursion (λ z. m x ≤ m z) xs → AllByRecursion (λ z. m y ≤ m z) ys
      → ((n : ℕ) → up_to n (x ∷ xs) ≡ up_to n (y ∷ ys)) → m x ≡ m y
  heads x xs y ys after_x after_y same =
      let first = same (m x) in
      let second = same (m y) in
      let own_x = own_head x xs in
      let own_y = own_head y ys in
      let low : m x < m y → ⊥ = λ below. let none = above_head (m x) y ys below after_y in omega (arith, first, own_x, none) in
      let high : m y < m x → ⊥ = λ below. let none = above_head (m y) x xs below after_x in omega (arith, second, own_y, none) in
      elim (either_way (m x) (m y)) [ inl below ↦ absurd (low below) | inr (inl below) ↦ absurd (high below) | inr (inr is) ↦ is ]
    where
      either_way : (a b : ℕ) → (a < b) ⊎ ((b < a) ⊎ (a ≡ b))
      either_way zero zero = inr (inr refl)
      either_way zero (suc b) = inl (omega arith)
      either_way (suc a) zero = inr (inl (omega arith))
      either_way (suc a) (suc b) = elim (either_way a b) [ inl below ↦ inl (omega (arith, below)) | inr (inl below) ↦ inr (inl (omega (arith, below))) | inr (inr is) ↦ inr (inr (ap suc is)) ]

  pub only_one : (xs ys : List X) → AllByRecursion P xs → AllByRecursion P ys → Rises xs → NeverFalls ys → ((n : ℕ) → up_to n xs ≡ up_to n ys) → length xs ≡ length ys → xs ≡ ys
  only_one [] [] all_x all_y rises falls same long = refl
  only_one [] (y ∷ ys) all_x all_y rises falls same long = absurd (omega (arith, long))
  only_one (x ∷ xs) [] all_x all_y rises falls same long = absurd (omega (arith, long))
  only_one (x ∷ xs) (y ∷ ys) all_x all_y rises falls same long =
      let head = one x y all_x.0 all_y.0 (heads x xs y ys (strictly x xs rises.0) falls.0 same) in
      let rest : (n : ℕ) → up_to n xs ≡ up_to n ys = λ n. let e = same n in let f = ap {B = ℕ} (λ z. cond (nat_le (m z) n) 1 0) head in omega (arith, e, f) in
      let tail = only_one xs ys all_x.1 all_y.1 rises.1 falls.1 rest (omega (arith, long)) in
      ap (λ z. z ∷ xs) head ∙ ap (λ zs. y ∷ zs) tail
