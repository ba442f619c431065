-- Each step of the gate keeps its rule.
use Rattle.std.proofs.Common.{◌≡◌, ◌≢◌, ℕ, zero, suc, List, [], ◌∷◌, Option, Some, None, map, set, slice_index, ◌==◌, ne_eqb, sym, refl, ap, ◌∙◌, subst, ⊎_elim, inl, inr, ◌⊎◌, arith}
use mathlib.Core.Option.{none, some, some-ne-none, some-injective}
use mathlib.Core.Logic.{dite}
use native.Mathlib.Decide.{ℕ_discrete}
use lib.ListN.{get_elem?}
use prog.Atomic.{either}
use Rattle.std.proofs.lemmas.Bool.{eq-eqb}
use Rattle.atomic_table.proofs.Lists.{at_set, at_snoc, set_here, set_again}
use Rattle.atomic_table.specs.Table.{Step, step, Me, keeps, takes, gives, rest, Allows, Splits, Joins}
use Rattle.fedi_turn.specs.declared.gate.Content.{Content}
use Rattle.fedi_turn.specs.declared.gate.GateFacts.{GateFacts}
use Rattle.fedi_turn.specs.declared.gate.GateView.{GateView}
use Rattle.fedi_turn.specs.declared.gate.GateView.TheVariants.{NoFacts, Facts}
use Rattle.fedi_turn.specs.Gate.{facts_of, HasValue, LacksValue, IsHome, IsGate, TakesOut, PutsBack}

-- a word that was written is the word that is read
written : (ws : List ℕ) (n : ℕ) → HasValue (slice_index (set ws 0 n) 0) → HasValue n
written [] n has = ⊎_elim (λ e. cc) (λ e. cc) has
written (w ∷ ws) n has = has

-- a compare-exchange at another word changes nothing
unchanged : (n old new : ℕ) → n ≢ old → either (n == old) new n ≡ n
unchanged n old new ne = ap (λ b. either b new n) (ne_eqb n old ne)

-- one at its word writes the new word
exchanged : (n old new : ℕ) → n ≡ old → either (n == old) new n ≡ new
exchanged n old new is = ap (λ b. either b new n) (eq-eqb n old is)

-- the word 0 has no value
pub none_at_zero : LacksValue 0
none_at_zero = ((λ e. cc), (λ e. cc))

lacking : (n m : ℕ) → LacksValue m → n ≡ m → HasValue n → ⊥
lacking n m lacks is has = ⊎_elim (λ e. lacks.0 (sym is ∙ e)) (λ e. lacks.1 (sym is ∙ e)) has

pub first_slot : {S : Type 0} (slots others : List (ℕ × S)) (x : ℕ × S) → slots ≡ x ∷ others → slots ≡ x ∷ rest slots
first_slot slots others x e = e ∙ ap (λ r. x ∷ r) (sym (ap rest e))

module _ {V I : Type 0} (list : V → List I) (base : V → List ℕ) where
  abbrev S : Type 0
  S = Option (Content V I)

  abbrev M : Type 0
  M = Me S (GateView I)

  knows_is : (v u : GateFacts I) → ◌≡◌ {A = GateView I} (Facts v) (Facts u) → v ≡ u
  knows_is v u e = cc

  same_views : (v : GateFacts I) (id : ℕ) (views : List (GateView I))
      → get_elem? views id ≡ some (Facts v)
      → ((j : ℕ) (u : GateView I) → get_elem? views j ≡ some u → (u ≡ NoFacts) ⊎ (u ≡ Facts v))
      → (j : ℕ) (u : GateView I) → get_elem? (set views id (Facts v)) j ≡ some u
      → (u ≡ NoFacts) ⊎ (u ≡ Facts v)
  same_views v id views at rule j u e =
      rule j u (sym (ap (λ l. get_elem? l j) (set_again views id (Facts v) at)) ∙ e)

  -- a compare-exchange of a word with a value takes the slot where it finds it
  taken_at : (v : GateFacts I) (slots id word : ℕ) → HasValue word
      → Allows (IsGate list base v) slots id (Facts v, []) 0 (λ n. either (n == word) 0 n)
      (TakesOut list base (step slots 0 word 0 none) (Facts v, []))
  taken_at v slots id word has s rule wide at small =
      let n = slice_index s.words 0 in
      let views' = same_views v id s.views at rule.1 in
      dite (ℕ_discrete n word)
      (λ is. let t = rule.0 (subst HasValue (sym is) has) in (
        Facts v,
        takes 0 (Some t.0),
        t.1,
        (
          (λ now. absurd (lacking _ 0 none_at_zero (exchanged n word 0 is)
              (written s.words (either (n == word) 0 n) now))),
          views',
        ),
        (
          refl,
          (λ ne. absurd (ne is)),
          (λ _. (
            t.0,
            refl,
            λ u e. subst (λ (z : GateFacts I). IsHome list base z t.0)
                (knows_is v u e) t.2,
          )),
        ),
      ))
      (λ ne. (
        Facts v,
        keeps,
        tt,
        (
          (λ now. rule.0 (subst HasValue (unchanged n word 0 ne)
              (written s.words (either (n == word) 0 n) now))),
          views',
        ),
        (refl, (λ _. refl), (λ is. absurd (ne is))),
      ))

  pub takes_out : (v : GateFacts I) (slots id word : ℕ) (me : M) → HasValue word
      → me ≡ (Facts v, [])
      → Allows (IsGate list base v) slots id me 0 (λ n. either (n == word) 0 n)
      (TakesOut list base (step slots 0 word 0 none) me)
  takes_out v slots id word me has e =
      subst (λ (m : M). Allows (IsGate list base v) slots id m 0 (λ n. either (n == word) 0 n)
      (TakesOut list base (step slots 0 word 0 none) m)) (sym e) (taken_at v slots id word has)

  -- a compare-exchange of words without a value leaves the slot as it is
  marked_at : (v : GateFacts I) (slots id old new : ℕ) → LacksValue new
      → Allows (IsGate list base v) slots id (Facts v, []) 0 (λ n. either (n == old) new n)
      (λ _ after. after ≡ (Facts v, []))
  marked_at v slots id old new lacks s rule wide at small =
      let n = slice_index s.words 0 in
      let views' = same_views v id s.views at rule.1 in
      let has' : HasValue (slice_index (set s.words 0 (either (n == old) new n)) 0) → HasValue n =
      λ now. dite (ℕ_discrete n old)
      (λ is. absurd (lacking _ new lacks (exchanged n old new is)
      (written s.words (either (n == old) new n) now)))
      (λ ne. subst HasValue (unchanged n old new ne)
      (written s.words (either (n == old) new n) now)) in
      (Facts v, keeps, tt, ((λ now. rule.0 (has' now)), views'), refl)

  pub marks : (v : GateFacts I) (slots id old new : ℕ) (me : M) → LacksValue new
      → me ≡ (Facts v, [])
      → Allows (IsGate list base v) slots id me 0 (λ n. either (n == old) new n)
      (λ _ after. after ≡ me)
  marks v slots id old new me lacks e =
      subst (λ (m : M). Allows (IsGate list base v) slots id m 0 (λ n. either (n == old) new n)
      (λ _ after. after ≡ m)) (sym e) (marked_at v slots id old new lacks)

  put_at : (v : GateFacts I) (slots id word : ℕ) (k : Content V I) (st : Step S) → slots ≡ 1
      → IsHome list base v k
      → Allows (IsGate list base v) slots id (Facts v, (0, Some k) ∷ []) 0 (λ _. word)
      (PutsBack st (Facts v, (0, Some k) ∷ []))
  put_at v slots id word k st one home s rule wide at small = (
    Facts v,
    gives,
    tt,
    (
      (λ _. (k, set_here s.homes 0 (some (Some k)) (omega arith), home)),
      same_views v id s.views at rule.1,
    ),
    (refl, refl),
  )

  pub puts_back : (v : GateFacts I) (slots id word : ℕ) (me : M) (k : Content V I) (st : Step S)
      → slots ≡ 1 → me ≡ (Facts v, (0, Some k) ∷ []) → IsHome list base v k
      → Allows (IsGate list base v) slots id me 0 (λ _. word) (PutsBack st me)
  puts_back v slots id word me k st one e home =
      subst (λ (m : M). Allows (IsGate list base v) slots id m 0 (λ _. word) (PutsBack st m))
      (sym e) (put_at v slots id word k st one home)

  pub ready : (v : GateFacts I) (me me' : M) (k : Content V I) → me ≡ (Facts v, (0, None) ∷ []) → me' ≡ (me.0, (0, Some k) ∷ rest me.1) → me' ≡ (Facts v, (0, Some k) ∷ [])
  ready v me me' k e e' = e' ∙ ap (λ (m : M). let r : M = (m.0, (0, Some k) ∷ rest m.1) in r) e

  pub splits : (v : GateFacts I) (id : ℕ) (me : M) → me ≡ (Facts v, []) → Splits (IsGate list base v) id me.0 me.0 me.0
  splits v id me e s rule at = let is = ap (λ (m : M). m.0) e in let same = set_again s.views id me.0 at in (
    rule.0,
    (λ j u e'. ⊎_elim (λ in'. rule.1 j u (sym (ap (λ l. get_elem? l j) same) ∙ in')) (λ last. inr (sym last ∙ is)) (at_snoc (set s.views id me.0) me.0 u j e')),
  )

  pub joins : (v : GateFacts I) (id : ℕ) (me : M) (other : ℕ) (his : M) → Joins (IsGate list base v) id me.0 other his.0 me.0 NoFacts
  joins v id me other his s rule at two at' = let same = set_again s.views id me.0 at in (
    rule.0,
    (λ j u e'. ⊎_elim (λ t. inl (sym t.1)) (λ t. rule.1 j u (sym (ap (λ l. get_elem? l j) same) ∙ t.1)) (at_set (set s.views id me.0) other j NoFacts u e')),
  )

  pub opens : (k : Content V I) → IsHome list base (facts_of list base k) k
      → IsGate list base (facts_of list base k) (record { words = 1 ∷ []; homes = some (Some k) ∷ []; views = Facts (facts_of list base k) ∷ [] })
  opens k home = (
    (λ _. (k, refl, home)),
    (elim [
      | zero ↦ λ u e. inr (sym (some-injective (Facts (facts_of list base k)) u e))
      | suc j ↦ λ u e. absurd (some-ne-none u (sym e))
    ]),
  )

  pub open_asks : (key k : Content V I) (items : List S) → key ≡ k → items ≡ Some k ∷ [] → IsHome list base (facts_of list base k) k
      → IsGate list base (facts_of list base key) (record { words = 1 ∷ []; homes = map some items; views = Facts (facts_of list base key) ∷ [] })
  open_asks key k items e e' home =
      subst (λ (z : Content V I). IsGate list base (facts_of list base z) (record { words = 1 ∷ []; homes = map some items; views = Facts (facts_of list base z) ∷ [] })) (sym e)
      (subst (λ (z : List S). IsGate list base (facts_of list base k) (record { words = 1 ∷ []; homes = map some z; views = Facts (facts_of list base k) ∷ [] })) (sym e') (opens k home))
