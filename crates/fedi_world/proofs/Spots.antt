-- What is at the places of lists in which one item changes.
use Rattle.std.proofs.Common.{◌≡◌, ◌≢◌, ℕ, zero, suc, List, [], ◌∷◌, ◌++◌, length, Some, arith, refl, sym, ap, ◌∙◌, inl, inr, ⊎_elim}
use Rattle.std.specs.Prelude.{◌⊎◌, ◌<◌, map, slice_get, slice_index_or, slice_set}
use Rattle.fedi_objects.specs.declared.entry.Entry.{Entry}
use Rattle.fedi_worlds.specs.Worlds.{Attempt, Server, keeping, replaced}
use Rattle.fedi_worlds.proofs.Places.{some_is}

fewer : {a b : ℕ} → suc a ≡ suc b → a ≡ b
fewer {a} {b} h = omega (arith, h)

-- ---- one item

pub set_here : {A : Type 0} (xs : List A) (n : ℕ) (x y : A) → slice_get xs n ≡ Some x
    → slice_get (slice_set xs n y) n ≡ Some y
set_here [] n x y e = absurd cc
set_here (z ∷ xs) zero x y e = refl
set_here (z ∷ xs) (suc n) x y e = set_here xs n x y e

pub set_beside : {A : Type 0} (xs : List A) (n : ℕ) (y : A) (j : ℕ) → j ≢ n
    → slice_get (slice_set xs n y) j ≡ slice_get xs j
set_beside [] n y j apart = refl
set_beside (z ∷ xs) zero y zero apart = absurd (apart refl)
set_beside (z ∷ xs) zero y (suc j) apart = refl
set_beside (z ∷ xs) (suc n) y zero apart = refl
set_beside (z ∷ xs) (suc n) y (suc j) apart = set_beside xs n y j (λ same. apart (ap suc same))

-- what is at a place is the new one, or was there
pub set_from : {A : Type 0} (xs : List A) (n : ℕ) (y : A) (j : ℕ) (z : A)
    → slice_get (slice_set xs n y) j ≡ Some z
    → ((j ≡ n) × (y ≡ z)) ⊎ ((j ≢ n) × (slice_get xs j ≡ Some z))
set_from [] n y j z e = absurd cc
set_from (x ∷ xs) zero y zero z e = inl (refl, some_is y z e)
set_from (x ∷ xs) zero y (suc j) z e = inr ((λ same. cc), e)
set_from (x ∷ xs) (suc n) y zero z e = inr ((λ same. cc), e)
set_from (x ∷ xs) (suc n) y (suc j) z e =
    ⊎_elim (λ (l : (j ≡ n) × (y ≡ z)). inl (ap suc l.0, l.1))
    (λ (r : (j ≢ n) × (slice_get xs j ≡ Some z)). inr ((λ same. r.0 (fewer same)), r.1))
    (set_from xs n y j z e)

-- an item that is put where it is
pub set_same : {A : Type 0} (xs : List A) (n : ℕ) (x : A) → slice_get xs n ≡ Some x
    → slice_set xs n x ≡ xs
set_same [] n x e = refl
set_same (y ∷ xs) zero x e = ap (λ z. z ∷ xs) (sym (some_is y x e))
set_same (y ∷ xs) (suc n) x e = ap (λ zs. y ∷ zs) (set_same xs n x e)

-- the item at an index
pub index_is : {A : Type 0} (xs : List A) (n : ℕ) (x : A) → n < length xs → x ≡ slice_index_or xs n x
    → slice_get xs n ≡ Some x
index_is [] n x h e = absurd (omega (arith, h))
index_is (y ∷ xs) zero x h e = ap (λ z. Some z) (sym e)
index_is (y ∷ xs) (suc n) x h e = index_is xs n x (below h) e
  where
    below : {a b : ℕ} → suc a < suc b → a < b
    below {a} {b} k = omega (arith, k)

-- ---- what is seen of the items

pub map_at : {A B : Type 0} (f : A → B) (xs : List A) (k : ℕ) (x : A) → slice_get xs k ≡ Some x
    → slice_get (map f xs) k ≡ Some (f x)
map_at f [] k x e = absurd cc
map_at f (y ∷ xs) zero x e = ap (λ z. Some (f z)) (some_is y x e)
map_at f (y ∷ xs) (suc k) x e = map_at f xs k x e

pub map_from : {A B : Type 0} (f : A → B) (xs : List A) (k : ℕ) (y : B)
    → slice_get (map f xs) k ≡ Some y → (x : A) × (slice_get xs k ≡ Some x) × (f x ≡ y)
map_from f [] k y e = absurd cc
map_from f (x ∷ xs) zero y e = (x, refl, some_is (f x) y e)
map_from f (x ∷ xs) (suc k) y e = map_from f xs k y e

pub map_set : {A B : Type 0} (f : A → B) (xs : List A) (n : ℕ) (y : A)
    → map f (slice_set xs n y) ≡ slice_set (map f xs) n (f y)
map_set f [] n y = refl
map_set f (x ∷ xs) zero y = refl
map_set f (x ∷ xs) (suc n) y = ap (λ zs. f x ∷ zs) (map_set f xs n y)

pub map_kept : {A B : Type 0} (f : A → B) (xs : List A) (n : ℕ) (x y : A) → slice_get xs n ≡ Some x
    → f y ≡ f x → map f (slice_set xs n y) ≡ map f xs
map_kept f [] n x y e same = refl
map_kept f (z ∷ xs) zero x y e same =
    ap (λ b. b ∷ map f xs) (same ∙ ap f (sym (some_is z x e)))
map_kept f (z ∷ xs) (suc n) x y e same = ap (λ zs. f z ∷ zs) (map_kept f xs n x y e same)

pub map_length : {A B : Type 0} (f : A → B) (xs : List A) → length (map f xs) ≡ length xs
map_length f [] = refl
map_length f (x ∷ xs) = ap suc (map_length f xs)

pub map_more : {A B : Type 0} (f : A → B) (xs ys : List A)
    → map f (xs ++ ys) ≡ map f xs ++ map f ys
map_more f [] ys = refl
map_more f (x ∷ xs) ys = ap (λ zs. f x ∷ zs) (map_more f xs ys)

-- ---- servers and attempts

pub keeping_set : (servers : List Server) (n : ℕ) (s : Server) (more : List Entry)
    → slice_get servers n ≡ Some s
    → slice_set servers n (record s { history = s.history ++ more }) ≡ keeping n more servers
keeping_set [] n s more e = refl
keeping_set (t ∷ servers) zero s more e =
    ap (λ (r : Server). record r { history = r.history ++ more } ∷ servers) (sym (some_is t s e))
keeping_set (t ∷ servers) (suc n) s more e =
    ap (λ (rs : List Server). t ∷ rs) (keeping_set servers n s more e)

pub replaced_set : (attempts : List Attempt) (n : ℕ) (a : Attempt)
    → slice_set attempts n a ≡ replaced n a attempts
replaced_set [] n a = refl
replaced_set (b ∷ attempts) zero a = refl
replaced_set (b ∷ attempts) (suc n) a =
    ap (λ (bs : List Attempt). b ∷ bs) (replaced_set attempts n a)
