-- Joined lists of texts, each text once.
use Rattle.std.proofs.Common.{◌≡◌, ℕ, true, false, cond, ◌||◌, List, [], ◌∷◌, ◌++◌, refl, ap, sym, subst, ◌∙◌}
use Rattle.std.specs.Prelude.{bytes_eq}
use Rattle.std.specs.List.{fold}
use Rattle.std.proofs.lemmas.List.Sums.{fold-append}
use Rattle.std.proofs.lemmas.Slice.Eq.{bytes_eq-Decides}
use Rattle.fedi_address.specs.Recipients.{is_among, add_new, distinct}
use Rattle.fedi_address.proofs.Audience.{is_among-append}

-- the texts of one list, and then those of another that are not there yet
pub distinct_joined : (a b kept more : List (List ℕ)) → kept ≡ fold add_new [] a → more ≡ fold add_new kept b → more ≡ distinct (a ++ b)
unfolding distinct
distinct_joined a b kept more h k = k ∙ rw h (sym (fold-append add_new [] a b))

-- a text that is there is not added
add_known : (kept : List (List ℕ)) (text : List ℕ) → is_among text kept ≡ true → add_new kept text ≡ kept
add_known kept text h = rw h refl

-- a text is among itself alone
pub among_alone : (text : List ℕ) → is_among text (text ∷ []) ≡ true
unfolding is_among
among_alone text = let same : bytes_eq text text ≡ true = (bytes_eq-Decides text text).1 refl in rw same refl

-- a text is there after it was added, and the earlier texts stay
pub among_added : (kept : List (List ℕ)) (text other : List ℕ) → is_among text kept ≡ true → is_among text (add_new kept other) ≡ true
among_added kept text other h =
    elim (is_among other kept) as (λ b. is_among text (cond b kept (kept ++ other ∷ [])) ≡ true)
    [ true ↦ h | false ↦ is_among-append text kept (other ∷ []) ∙ rw h refl ]

pub now_among : (kept : List (List ℕ)) (text : List ℕ) → is_among text (add_new kept text) ≡ true
now_among kept text =
    elim (is_among text kept) as (λ b. is_among text kept ≡ b → is_among text (cond b kept (kept ++ text ∷ [])) ≡ true) [
      | true ↦ λ h. h
      | false ↦ λ h. is_among-append text kept (text ∷ []) ∙ rw h (among_alone text)
    ] refl

among_folded : (kept texts : List (List ℕ)) (text : List ℕ) → is_among text kept ≡ true → is_among text (fold add_new kept texts) ≡ true
among_folded kept [] text h = h
among_folded kept (t ∷ ts) text h = among_folded (add_new kept t) ts text (among_added kept text t h)

-- each text of a list is among the gathered texts
now_folded : (kept texts : List (List ℕ)) (text : List ℕ) → is_among text texts ≡ true → is_among text (fold add_new kept texts) ≡ true
unfolding is_among
now_folded kept [] text h = absurd cc
now_folded kept (t ∷ ts) text h =
    elim (bytes_eq t text) as (λ b. bytes_eq t text ≡ b → (b || is_among text ts) ≡ true → is_among text (fold add_new (add_new kept t) ts) ≡ true) [
      | true ↦ λ same _. among_folded (add_new kept t) ts text (subst (λ (u : List ℕ). is_among u (add_new kept t) ≡ true) ((bytes_eq-Decides t text).0 same) (now_among kept t))
      | false ↦ λ _ rest. now_folded (add_new kept t) ts text rest
    ] refl h

-- adding the gathered texts of a list is the same as adding the list's texts
folded_once : (kept found texts : List (List ℕ)) → fold add_new kept (fold add_new found texts) ≡ fold add_new (fold add_new kept found) texts
folded_once kept found [] = refl
folded_once kept found (t ∷ ts) =
    folded_once kept (add_new found t) ts
    ∙ ap (λ (start : List (List ℕ)). fold add_new start ts)
    (elim (is_among t found) as (λ b. is_among t found ≡ b → fold add_new kept (cond b found (found ++ t ∷ [])) ≡ add_new (fold add_new kept found) t) [
      | true ↦ λ h. sym (add_known (fold add_new kept found) t (now_folded kept found t h))
      | false ↦ λ _. fold-append add_new kept found (t ∷ [])
    ] refl)

-- so each text of two lists occurs once in both joined, whether or not each had it once
pub distinct_twice : (a b : List (List ℕ)) → distinct (distinct a ++ distinct b) ≡ distinct (a ++ b)
unfolding distinct
distinct_twice a b =
    fold-append add_new [] (fold add_new [] a) (fold add_new [] b)
    ∙ folded_once (fold add_new [] (fold add_new [] a)) [] b
    ∙ ap (λ (start : List (List ℕ)). fold add_new start b) (folded_once [] [] a)
    ∙ sym (fold-append add_new [] a b)
