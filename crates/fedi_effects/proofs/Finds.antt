-- What is found among the activities that somebody sees.
use Rattle.std.proofs.Common.{◌≡◌, ℕ, Bool, true, false, List, [], ◌∷◌, Option, Some, refl, ap, sym, ◌∙◌}
use Rattle.std.specs.Prelude.{◌&&◌, filter}
use Rattle.std.specs.List.{find}
use Rattle.fedi_town.specs.declared.act.Act.{Act}
use Rattle.fedi_town.specs.declared.caller.Caller.TheVariants.{Actor}
use Rattle.fedi_town.specs.Seeing.{sees, sees_as, sees_with, seen}
use Rattle.fedi_town.specs.Towns.{Town, id_of}

-- the first that passes both tests is the first that passes one among those that pass the other
find-filter : {A : Type 0} (p q : A → Bool) (xs : List A) → find (λ x. p x && q x) xs ≡ find p (filter q xs)
find-filter p q [] = refl
find-filter {A} p q (x ∷ xs) =
    let Goal : Type 0 = find (λ y. p y && q y) (x ∷ xs) ≡ find p (filter q (x ∷ xs)) in
    elim (q x) as (λ b. q x ≡ b → Goal) [
      | true ↦ λ kept. elim (p x) as (λ b. p x ≡ b → Goal) [
        | true ↦ λ passes. rw (passes, kept, passes) refl
        | false ↦ λ fails. rw (fails, kept, fails) (find-filter p q xs)
      ] refl
      | false ↦ λ left. elim (p x) as (λ b. p x ≡ b → Goal) [
        | true ↦ λ passes. rw (passes, left) (find-filter p q xs)
        | false ↦ λ fails. rw (fails, left) (find-filter p q xs)
      ] refl
    ] refl

-- so one search finds the first that somebody sees and that passes
pub find_seen : {A : Type 0} (p q : A → Bool) (xs ys : List A) (found : Option A) → found ≡ find (λ x. p x && q x) xs → xs ≡ ys → found ≡ find p (filter q ys)
find_seen p q xs ys found is same = is ∙ rw same (find-filter p q ys)

-- what a member's actor sees is what the member sees
seen_as : (t : Town) (name author : List ℕ) → id_of t name ≡ Some author → filter (sees_as t author) t.acts ≡ seen t (Actor name)
unfolding sees
seen_as t name author is = ap (λ (own : Option (List ℕ)). filter (sees_with t own) t.acts) (sym is)

-- what is found among all that passes and is seen is found among what the member sees
pub find_as : (t : Town) (p : Act → Bool) (author : List ℕ) (found : Option Act) (acts : List Act)
    → found ≡ find (λ x. p x && sees_as t author x) acts → acts ≡ t.acts
    → (name : List ℕ) → id_of t name ≡ Some author → found ≡ find p (seen t (Actor name))
find_as t p author found acts is same name own =
    find_seen p (sees_as t author) acts t.acts found is same ∙ ap (find p) (seen_as t name author own)
