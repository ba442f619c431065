-- An activity that is added to one more inbox.
use Rattle.std.proofs.Common.{◌≡◌, ℕ, suc, ◌+◌, arith, Bool, true, false, List, [], ◌∷◌, ◌++◌, Option, Some, None, refl, sym, ap, ◌∙◌, get_or, length, ltb}
use Rattle.std.specs.Prelude.{nat_lt, option_map, if◌then◌else◌}
use Rattle.std.specs.List.{find, list_any, position_or_len}
use Rattle.fedi_town.specs.declared.act.Act.{Act}
use Rattle.fedi_town.specs.Relations.{has_activity_id}
use Rattle.fedi_register.proofs.Once.{place_any}
use Rattle.fedi_register.specs.Changes.{longer_of}

-- the activity with one more recipient
abbrev pub more : List ℕ → Act → Act
more owner y = record y { recipients = y.recipients ++ owner ∷ [] }

found-at : {A : Type 0} (p : A → Bool) (xs : List A) (d : A) → list_any p xs ≡ true → find p xs ≡ Some (get_or xs (position_or_len p xs) d)
found-at p [] d any = absurd cc
found-at {A} p (x ∷ xs) d any =
    elim (p x) as (λ b. p x ≡ b → find p (x ∷ xs) ≡ Some (get_or (x ∷ xs) (position_or_len p (x ∷ xs)) d)) [
      | true ↦ λ e. rw e refl
      | false ↦ λ e. let k : 1 + position_or_len p xs ≡ suc (position_or_len p xs) = omega arith in rw (e, k) (found-at p xs d (rw e at any))
    ] refl

pub longer_at : (id owner : List ℕ) (acts : List Act) (i : ℕ) (rs : List (List ℕ)) (d : Act) → longer_of id owner acts ≡ Some rs
    → (if nat_lt (position_or_len (has_activity_id id) acts) (length acts) then Some (position_or_len (has_activity_id id) acts) else None) ≡ Some i
    → record (get_or acts i d) { recipients = rs } ≡ more owner (get_or acts i d)
longer_at id owner acts i rs d longer at =
    let p : Act → Bool = has_activity_id id in
    elim (ltb (position_or_len p acts) (length acts)) as (λ b. ltb (position_or_len p acts) (length acts) ≡ b → (if b then Some (position_or_len p acts) else None) ≡ Some i → record (get_or acts i d) { recipients = rs } ≡ more owner (get_or acts i d)) [
      | true ↦ λ e h.
          let place : position_or_len p acts ≡ i = cc in
          let found : find p acts ≡ Some (get_or acts i d) = found-at p acts d (sym (place_any p acts) ∙ e) ∙ ap (λ (k : ℕ). Some (get_or acts k d)) place in
          let is : Some ((get_or acts i d).recipients ++ owner ∷ []) ≡ Some rs = sym (ap (λ (o : Option Act). option_map (λ x. x.recipients ++ owner ∷ []) o) found) ∙ longer in
          let same : rs ≡ (get_or acts i d).recipients ++ owner ∷ [] = cc in
          ap (λ (r : List (List ℕ)). record (get_or acts i d) { recipients = r }) same
      | false ↦ λ e h. absurd cc
    ] refl at
