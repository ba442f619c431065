-- What the last look shows of all passes.
use Rattle.std.proofs.Common.{◌≡◌, ◌≢◌, ℕ, suc, ◌<◌, ◌≤◌, Bool, true, false, ◌||◌, eqb, eq-eqb, ne_eqb, List, [], ◌∷◌, ◌++◌, map, All, Contains, Option, Some, length, sym, refl, ap, ◌∙◌, subst, ⊎_elim, inl, inr, ◌⊎◌, arith}
use Rattle.std.specs.List.{list_any, IsDistinct, AllByRecursion}
use Rattle.std.proofs.lemmas.List.Elements.{All-nil, All-cons, All-head, All-tail, All-weaker, All-contains}
use Rattle.std.proofs.lemmas.Map.Steps.{length-le_from_distinct_below}
use Rattle.std.proofs.lemmas.List.{length-map}
use mathlib.Core.Logic.{dite}
use native.Mathlib.Decide.{ℕ_discrete}
use Rattle.fedi_turn.specs.declared.record.ReaderView.{ReaderView}
use Rattle.fedi_turn.specs.declared.record.WriterView.{WriterView}
use Rattle.fedi_turn.specs.Record.{Continues, AreApart, IsOrdered}

true_or_false : (b : Bool) → (b ≡ true) ⊎ (b ≡ false)
true_or_false true = inl refl
true_or_false false = inr refl

all_back : {A B : Type 0} (P : B → Type 0) (f : A → B) (ps : List A) → All P (map f ps) → All (λ p. P (f p)) ps
all_back P f [] a = All-nil (λ p. P (f p))
all_back P f (p ∷ ps) a = All-cons (λ p. P (f p)) p ps (All-head P (f p) (map f ps) a) (all_back P f ps (All-tail P (f p) (map f ps) a))

module _ {A : Type 0} (f : A → ℕ) where
  found : (n : ℕ) (ps : List A) → list_any (eqb n) (map f ps) ≡ true → (p : A) × Contains ps p × (f p ≡ n)
  found n [] e = absurd cc
  found n (p ∷ ps) e = dite (ℕ_discrete n (f p)) (λ is. (p, (0, omega arith, refl), sym is))
      (λ ne. let t = found n ps (subst (λ b. (b || list_any (eqb n) (map f ps)) ≡ true) (ne_eqb n (f p) ne) e) in (t.0, (suc t.1.0, omega arith, t.1.2), t.2))

  missing : (n : ℕ) (ps : List A) → list_any (eqb n) (map f ps) ≡ false → AllByRecursion (λ y. eqb n y ≡ false) (map f ps)
  missing n [] e = tt
  missing n (p ∷ ps) e = dite (ℕ_discrete n (f p)) (λ is. absurd (let bad : true ≡ false = subst (λ b. (b || list_any (eqb n) (map f ps)) ≡ false) (eq-eqb n (f p) is) e in cc))
      (λ ne. (ne_eqb n (f p) ne, missing n ps (subst (λ b. (b || list_any (eqb n) (map f ps)) ≡ false) (ne_eqb n (f p) ne) e)))

  below : (most : ℕ) (ps : List A) → All (λ p. f p < most) ps → (q : ℕ) → list_any (eqb q) (map f ps) ≡ true → q < most
  below most ps a q e = let t = found q ps e in subst (λ m. m < most) t.2 (All-contains (λ p. f p < most) ps t.0 a t.1)

  -- distinct numbers below `most`, as many as that, are all numbers below it
  covers : (most n : ℕ) (ps : List A) → IsDistinct eqb (map f ps) → All (λ p. f p < most) ps → most ≤ length ps → n < most → (p : A) × Contains ps p × (f p ≡ n)
  unfolding IsDistinct
  covers most n ps d a many low = ⊎_elim (λ e. found n ps e)
      (λ e. absurd (
      let short = length-le_from_distinct_below (n ∷ map f ps) most (missing n ps e, d)
      (λ q e'. dite (ℕ_discrete q n) (λ is. omega arith) (λ ne. below most ps a q (subst (λ b. (b || list_any (eqb q) (map f ps)) ≡ true) (ne_eqb q n ne) e'))) in
      omega (arith, length-map ps f))) (true_or_false (list_any (eqb n) (map f ps)))

module _ {A I : Type 0} (note : A → ReaderView I) where
  differ : (m : ℕ) (ps : List A) → All (λ (s : ReaderView I). s.number ≢ m) (map note ps) → AllByRecursion (λ y. eqb m y ≡ false) (map (λ p. (note p).number) ps)
  differ m [] a = tt
  differ m (p ∷ ps) a = (
    ne_eqb m (note p).number (λ is. All-head (λ (s : ReaderView I). s.number ≢ m) (note p) (map note ps) a (sym is)),
    differ m ps (All-tail (λ (s : ReaderView I). s.number ≢ m) (note p) (map note ps) a),
  )

  distinct : (ps : List A) → AreApart (map note ps) → IsDistinct eqb (map (λ p. (note p).number) ps)
  unfolding IsDistinct
  distinct [] a = tt
  distinct (p ∷ ps) a = (differ (note p).number ps a.0, distinct ps a.1)

  module _ (name : I → Option ℕ) (ps : List A) (w : WriterView I) (o : IsOrdered name w) (all : w.carried ≡ map note ps) where
    carried_fit : All (λ (r : ReaderView I). (r.number < w.count) × Continues name r.number r.list w.turn) (map note ps)
    carried_fit = subst (All (λ (r : ReaderView I). (r.number < w.count) × Continues name r.number r.list w.turn)) all o.each_carried

    pub all_continue : All (λ p. Continues name (note p).number (note p).list w.turn) ps
    all_continue = all_back (λ (r : ReaderView I). Continues name r.number r.list w.turn) note ps
        (All-weaker (λ (r : ReaderView I). (r.number < w.count) × Continues name r.number r.list w.turn) (λ (r : ReaderView I). Continues name r.number r.list w.turn) (λ r h. h.1) (map note ps) carried_fit)

    pub all_named : w.count ≤ length ps → (rest : List I) × (w.list ≡ w.start ++ rest) × All (λ x. (p : A) × Contains ps p × (name x ≡ Some (note p).number)) rest
    all_named many =
        let low = all_back (λ (r : ReaderView I). r.number < w.count) note ps
        (All-weaker (λ (r : ReaderView I). (r.number < w.count) × Continues name r.number r.list w.turn) (λ (r : ReaderView I). r.number < w.count) (λ r h. h.0) (map note ps) carried_fit) in
        let apart = distinct ps (subst AreApart all o.apart) in (
          o.below.0,
          o.below.1,
          All-weaker (λ x. (n : ℕ) × (n < w.count) × (name x ≡ Some n)) (λ x. (p : A) × Contains ps p × (name x ≡ Some (note p).number))
              (λ x t. let c = covers (λ p. (note p).number) w.count t.0 ps apart low many t.1 in (c.0, c.1, t.2 ∙ ap (λ (n : ℕ). Some n) (sym c.2))) o.below.0 o.below.2,
        )
