-- What is listed, by the positions of the Adds by which it is.
use Rattle.std.proofs.Common.{◌≡◌, ◌≤◌, ℕ, suc, arith, Bool, true, false, List, [], ◌∷◌, Option, Some, None, refl, sym, ap, ◌∙◌}
use Rattle.std.specs.Prelude.{◌&&◌, filter, map, slice_get, unwrap_or, if◌then◌else◌}
use Rattle.std.specs.List.{fold}
use Rattle.std.specs.Str.{bytes_eq}
use Rattle.std.proofs.lemmas.List.Folds.{fold-map}
use Rattle.fedi_address.specs.Recipients.{add_new}
use Rattle.fedi_town.proofs.Lists.{filter-agree}
use Rattle.fedi_town.specs.declared.act.Act.{Act}
use Rattle.fedi_town.specs.declared.caller.Caller.{Caller}
use Rattle.fedi_town.specs.Boards.{is_remove}
use Rattle.fedi_town.specs.Lists.{differs}
use Rattle.fedi_town.specs.Seeing.{seen, sees}
use Rattle.fedi_town.specs.Towns.{Town}
use Rattle.fedi_visible.specs.Places.{places_from}
use Rattle.fedi_pins.proofs.Candidates.{fold-filtered, passes_at, passes_found, passing_candidates}
use Rattle.fedi_pins.proofs.Changes.{change_candidate, changes_listed, is_candidate, with_item}
use Rattle.fedi_pins.proofs.Holding.{From, holds, ids_held, put_held, with_id}
use Rattle.fedi_pins.specs.declared.pins.Listing.{Listing}
use Rattle.fedi_pins.specs.declared.pins.Listing.TheVariants.{Objects, Boards}
use Rattle.fedi_pins.specs.Held.{candidates, held_at, held_found, held_places, is_change, is_holder, is_place, is_seen_change, item_at, key_found, listed}

-- the activity takes something out
abbrev takes_out : Act → Bool
takes_out x = is_remove x.activity.kind

abbrev counts_at : Town → Caller → Listing → List ℕ → List ℕ → ℕ → Bool
counts_at t c k author board = passes_at (is_seen_change t c k author board) t.acts

abbrev out_at : Town → ℕ → Bool
out_at t = passes_at takes_out t.acts

-- ---- one position

held-found : (t : Town) (c : Caller) (k : Listing) (author board id : List ℕ) (held : Option ℕ) (place : ℕ) (found : Option Act)
    → (if passes_found (is_seen_change t c k author board) found && bytes_eq (key_found k found) id
    then (if passes_found takes_out found then None else Some (unwrap_or held place)) else held)
    ≡ held_found t c k author board id held place found
held-found t c k author board id held place None = refl
held-found t c k author board id held place (Some x) = refl

held-at : (t : Town) (c : Caller) (k : Listing) (author board id : List ℕ) (held : Option ℕ) (place : ℕ)
    → put_held (item_at t k) (counts_at t c k author board) (out_at t) id held place ≡ held_at t c k author board id held place
unfolding held_at
held-at t c k author board id held place = held-found t c k author board id held place (slice_get t.acts place)

-- the items after the activity that was found
abbrev with_found : Listing → List (List ℕ) → Option Act → List (List ℕ)
with_found k ids None = ids
with_found k ids (Some x) = with_item k ids x

with-found : (t : Town) (c : Caller) (k : Listing) (author board : List ℕ) (ids : List (List ℕ)) (found : Option Act)
    → (if passes_found (is_seen_change t c k author board) found
    then (if passes_found takes_out found then filter (differs bytes_eq (key_found k found)) ids else add_new ids (key_found k found)) else ids)
    ≡ (if passes_found (is_seen_change t c k author board) found then with_found k ids found else ids)
with-found t c k author board ids None = refl
with-found t c k author board ids (Some x) = refl

-- ---- all of them

filter-filter : {A : Type 0} (p q : A → Bool) (xs : List A) → filter (λ x. p x && q x) xs ≡ filter p (filter q xs)
filter-filter p q [] = refl
filter-filter p q (x ∷ xs) =
    elim (q x) as (λ b. q x ≡ b → filter (λ y. p y && q y) (x ∷ xs) ≡ filter p (filter q (x ∷ xs))) [
      | true ↦ λ e. elim (p x) as (λ b. p x ≡ b → filter (λ y. p y && q y) (x ∷ xs) ≡ filter p (filter q (x ∷ xs))) [
        | true ↦ λ f. rw (f, e, f, filter-filter p q xs) refl
        | false ↦ λ f. rw (f, e, f, filter-filter p q xs) refl
      ] refl
      | false ↦ λ e. elim (p x) as (λ b. p x ≡ b → filter (λ y. p y && q y) (x ∷ xs) ≡ filter p (filter q (x ∷ xs))) [
        | true ↦ λ f. rw (f, e, filter-filter p q xs) refl
        | false ↦ λ f. rw (f, e, filter-filter p q xs) refl
      ] refl
    ] refl

seen_changes : (t : Town) (c : Caller) (k : Listing) (author board : List ℕ) → filter (is_seen_change t c k author board) t.acts ≡ filter (is_change k author board) (seen t c)
unfolding is_seen_change
seen_changes t c k author board = filter-filter (is_change k author board) (sees t c) t.acts

ids_listed : (t : Town) (c : Caller) (k : Listing) (author board : List ℕ)
    → fold (with_id (item_at t k) (counts_at t c k author board) (out_at t)) [] (places_from (is_candidate k author board) 0 t.acts) ≡ listed t c k author board
ids_listed t c k author board =
    let places : List ℕ = places_from (is_candidate k author board) 0 t.acts in
    let counts : ℕ → Bool = counts_at t c k author board in
    fold-filtered (with_id (item_at t k) counts (out_at t)) (λ ids place. with_found k ids (slice_get t.acts place)) counts
    (λ ids place. with-found t c k author board ids (slice_get t.acts place)) [] places
    ∙ sym (fold-map (with_found k) (slice_get t.acts) [] (filter counts places))
    ∙ ap (fold (with_found k) []) (passing_candidates t.acts (is_seen_change t c k author board) (is_candidate k author board) (change_candidate t c k author board))
    ∙ fold-map (with_found k) Some [] (filter (is_seen_change t c k author board) t.acts)
    ∙ ap (fold (with_item k) []) (seen_changes t c k author board)
    ∙ changes_listed t c k author board

module _ (key : ℕ → List ℕ) (counts out : ℕ → Bool) where
  from-less : (n : ℕ) (ps : List ℕ) → From key counts out (suc n) ps → From key counts out n ps
  from-less n [] f = f
  from-less n (p ∷ ps) f = (let above : suc n ≤ p = f.0 in omega (arith, above), f.1)

  from-places : (q : Act → Bool) (n : ℕ) (xs : List Act) → From key counts out n (places_from q n xs)
  from-places q n [] = tt
  from-places q n (x ∷ xs) =
      elim (q x) as (λ b. From key counts out n (if b then n ∷ places_from q (suc n) xs else places_from q (suc n) xs)) [
        | true ↦ (omega arith, from-places q (suc n) xs)
        | false ↦ from-less n (places_from q (suc n) xs) (from-places q (suc n) xs)
      ]

fold-agree : {A S : Type 0} (f g : S → A → S) → ((s : S) (x : A) → f s x ≡ g s x) → (s : S) (xs : List A) → fold f s xs ≡ fold g s xs
fold-agree f g same s [] = refl
fold-agree {A} {S} f g same s (x ∷ xs) = ap (λ (u : S). fold f u xs) (same s x) ∙ fold-agree f g same (g s x) xs

holders : (t : Town) (c : Caller) (k : Listing) (author board : List ℕ) (places : List ℕ) (place : ℕ)
    → holds (item_at t k) (counts_at t c k author board) (out_at t) (λ id. fold (put_held (item_at t k) (counts_at t c k author board) (out_at t) id) None places) place
    ≡ is_holder t c k author board places place
unfolding is_holder
holders t c k author board places place =
    ap (is_place place)
    (fold-agree (put_held (item_at t k) (counts_at t c k author board) (out_at t) (item_at t k place)) (held_at t c k author board (item_at t k place))
    (held-at t c k author board (item_at t k place)) None places)

candidates-are : (t : Town) (k : Listing) (author board : List ℕ) → candidates t k author board ≡ places_from (is_candidate k author board) 0 t.acts
candidates-are t Objects author board = refl
candidates-are t Boards author board = refl

-- what is listed is what the Adds are about by which it is
pub listed_held : (t : Town) (c : Caller) (k : Listing) (author board : List ℕ)
    → map (item_at t k) (held_places t c k author board (candidates t k author board)) ≡ listed t c k author board
listed_held t c k author board =
    rw (candidates-are t k author board)
    (let places : List ℕ = places_from (is_candidate k author board) 0 t.acts in
    let key : ℕ → List ℕ = item_at t k in
    let counts : ℕ → Bool = counts_at t c k author board in
    ap (map key) (sym (filter-agree _ (is_holder t c k author board places) (holders t c k author board places) places))
    ∙ sym (ids_held key counts (out_at t) places (from-places key counts (out_at t) (is_candidate k author board) 0 t.acts))
    ∙ ids_listed t c k author board)
