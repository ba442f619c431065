-- What is at the places of lists that grow.
use Rattle.std.proofs.Common.{◌≡◌, ℕ, zero, suc, List, [], ◌∷◌, ◌++◌, length, Some, refl, sym, ap}
use Rattle.std.proofs.Common.{◌∙◌, inl, inr, ⊎_elim, append-nil}
use Rattle.std.specs.Prelude.{◌⊎◌, slice_get, map}
use Rattle.fedi_objects.specs.declared.entry.Entry.{Entry}
use Rattle.fedi_worlds.specs.Worlds.{Server, Attempt, keeping, replaced}

pub some_is : {A : Type 0} (x y : A) → Some x ≡ Some y → x ≡ y
some_is x y e = cc

-- what was at a place stays there
pub stays : {A : Type 0} (xs ys : List A) (k : ℕ) (x : A) → slice_get xs k ≡ Some x
    → slice_get (xs ++ ys) k ≡ Some x
stays [] ys k x e = absurd cc
stays (y ∷ xs) ys zero x e = e
stays (y ∷ xs) ys (suc k) x e = stays xs ys k x e

-- the new one is at the end
pub at_end : {A : Type 0} (xs : List A) (x : A) → slice_get (xs ++ x ∷ []) (length xs) ≡ Some x
at_end [] x = refl
at_end (y ∷ xs) x = at_end xs x

-- what is at a place is old or new
pub old_or_new : {A : Type 0} (xs : List A) (x y : A) (k : ℕ) → slice_get (xs ++ x ∷ []) k ≡ Some y
    → (slice_get xs k ≡ Some y) ⊎ ((k ≡ length xs) × (x ≡ y))
old_or_new [] x y zero e = inr (refl, some_is x y e)
old_or_new [] x y (suc k) e = absurd cc
old_or_new (z ∷ xs) x y zero e = inl e
old_or_new (z ∷ xs) x y (suc k) e =
    ⊎_elim (λ a. inl a) (λ (b : (k ≡ length xs) × (x ≡ y)). inr (ap suc b.0, b.1))
    (old_or_new xs x y k e)

-- what is in two lists is in one of them
pub slice_split : {A : Type 0} (xs ys : List A) (k : ℕ) (y : A) → slice_get (xs ++ ys) k ≡ Some y
    → (slice_get xs k ≡ Some y) ⊎ ((j : ℕ) × (slice_get ys j ≡ Some y))
slice_split [] ys k y e = inr (k, e)
slice_split (x ∷ xs) ys zero y e = inl e
slice_split (x ∷ xs) ys (suc k) y e = slice_split xs ys k y e

-- ---- servers

-- a server at its place, later
pub record IsGrown (s t : Server) : Type 0 where
  pub host : t.host ≡ s.host
  pub more : List Entry
  pub is : t.history ≡ s.history ++ more

abbrev pub unchanged : (s : Server) → IsGrown s s
unchanged s = record { host = refl; more = []; is = sym (append-nil s.history) }

pub kept_on : (n : ℕ) (more : List Entry) (servers : List Server) (k : ℕ) (s : Server)
    → slice_get servers k ≡ Some s
    → (t : Server) × (slice_get (keeping n more servers) k ≡ Some t) × IsGrown s t
kept_on n more [] k s e = absurd cc
kept_on zero more (r ∷ servers) zero s e =
    let same : r ≡ s = some_is r s e in (
      record s { history = s.history ++ more },
      rw same refl,
      record { host = refl; more = more; is = refl },
    )
kept_on zero more (r ∷ servers) (suc k) s e = (s, e, unchanged s)
kept_on (suc n) more (r ∷ servers) zero s e = (s, e, unchanged s)
kept_on (suc n) more (r ∷ servers) (suc k) s e = kept_on n more servers k s e

-- the one that kept the entries
pub kept_here : (n : ℕ) (more : List Entry) (servers : List Server) (s : Server)
    → slice_get servers n ≡ Some s
    → slice_get (keeping n more servers) n ≡ Some (record s { history = s.history ++ more })
kept_here n more [] s e = absurd cc
kept_here zero more (r ∷ servers) s e = let same : r ≡ s = some_is r s e in rw same refl
kept_here (suc n) more (r ∷ servers) s e = kept_here n more servers s e

-- what is at a place now was there, or has kept the entries
pub kept_from : (n : ℕ) (more : List Entry) (servers : List Server) (k : ℕ) (t : Server)
    → slice_get (keeping n more servers) k ≡ Some t
    → (s : Server) × (slice_get servers k ≡ Some s)
    × ((t ≡ s) ⊎ ((k ≡ n) × (t ≡ record s { history = s.history ++ more })))
kept_from n more [] k t e = absurd cc
kept_from zero more (r ∷ servers) zero t e = (r, refl, inr (refl, sym (some_is _ t e)))
kept_from zero more (r ∷ servers) (suc k) t e = (t, e, inl refl)
kept_from (suc n) more (r ∷ servers) zero t e = (r, refl, inl (sym (some_is r t e)))
kept_from (suc n) more (r ∷ servers) (suc k) t e =
    let below = kept_from n more servers k t e in (
      below.0,
      below.1,
      ⊎_elim (λ a. inl a)
          (λ (b : (k ≡ n) × (t ≡ record below.0 { history = below.0.history ++ more })).
          inr (ap suc b.0, b.1)) below.2,
    )

-- ---- attempts

pub replaced_on : (n : ℕ) (now a : Attempt) (attempts : List Attempt)
    → slice_get attempts n ≡ Some a → now.task ≡ a.task
    → (k : ℕ) (b : Attempt) → slice_get attempts k ≡ Some b
    → (c : Attempt) × (slice_get (replaced n now attempts) k ≡ Some c) × (c.task ≡ b.task)
replaced_on n now a [] at same k b e = absurd cc
replaced_on zero now a (r ∷ attempts) at same zero b e =
    let one : r ≡ a = some_is r a at in let other : r ≡ b = some_is r b e in
    (now, refl, same ∙ ap (λ (x : Attempt). x.task) (sym one ∙ other))
replaced_on zero now a (r ∷ attempts) at same (suc k) b e = (b, e, refl)
replaced_on (suc n) now a (r ∷ attempts) at same zero b e = (b, e, refl)
replaced_on (suc n) now a (r ∷ attempts) at same (suc k) b e =
    replaced_on n now a attempts at same k b e

pub replaced_from : (n : ℕ) (now : Attempt) (attempts : List Attempt) (k : ℕ) (c : Attempt)
    → slice_get (replaced n now attempts) k ≡ Some c
    → (slice_get attempts k ≡ Some c) ⊎ (now ≡ c)
replaced_from n now [] k c e = absurd cc
replaced_from zero now (r ∷ attempts) zero c e = inr (some_is now c e)
replaced_from zero now (r ∷ attempts) (suc k) c e = inl e
replaced_from (suc n) now (r ∷ attempts) zero c e = inl e
replaced_from (suc n) now (r ∷ attempts) (suc k) c e = replaced_from n now attempts k c e

pub mapped_at : {A : Type 0} (f : A → A) (xs : List A) (k : ℕ) (x : A) → slice_get xs k ≡ Some x
    → slice_get (map f xs) k ≡ Some (f x)
mapped_at f [] k x e = absurd cc
mapped_at f (y ∷ xs) zero x e = ap (λ z. Some (f z)) (some_is y x e)
mapped_at f (y ∷ xs) (suc k) x e = mapped_at f xs k x e

pub mapped_from : {A : Type 0} (f : A → A) (xs : List A) (k : ℕ) (y : A)
    → slice_get (map f xs) k ≡ Some y → (x : A) × (slice_get xs k ≡ Some x) × (f x ≡ y)
mapped_from f [] k y e = absurd cc
mapped_from f (x ∷ xs) zero y e = (x, refl, some_is (f x) y e)
mapped_from f (x ∷ xs) (suc k) y e = mapped_from f xs k y e
