-- One more position at the end of one list, unless the list ends in it.
use Rattle.std.proofs.Common.{◌≡◌, ℕ, ◌≤◌, arith, Bool, true, false, List, [], ◌∷◌, ◌++◌, Some, None, refl, sym, ap, ◌∙◌}
use Rattle.std.specs.Prelude.{◌&&◌, not, slice_get, if◌then◌else◌}
use Rattle.std.specs.List.{find}
use Rattle.std.specs.Str.{bytes_eq}
use Rattle.std.proofs.lemmas.Bool.{and_parts}
use Rattle.std.proofs.lemmas.List.{append-nil}
use Rattle.std.proofs.lemmas.Slice.Eq.{bytes_eq-Decides}
use Rattle.fedi_register.specs.declared.seeds.Seed.{Seed}
use Rattle.fedi_register.specs.Marks.{every, marks_from}
use Rattle.fedi_index.specs.declared.collection.Collection.{Collection}
use Rattle.fedi_index.specs.Candidates.{is_same}
use Rattle.fedi_index.specs.Lists.{AddsOnce, CanAdd, HasOneMore, Listing, at_end, ends_in, first_from, grown_at, is_lacking, is_list, is_same_list, list_found, list_mark, places_found, places_of, pushed_at, room_found}
use Rattle.fedi_index.proofs.Found.{grown_marks, list_at, none_room, one_added, room_there}
use Rattle.fedi_index.proofs.SameKind.{kind_itself, same_kind}
use Rattle.fedi_town.proofs.Texts.{and_none}

own_list : (kind : Collection) (owner : List ℕ) → is_same_list kind owner kind owner ≡ true
own_list kind owner = rw (kind_itself kind, (bytes_eq-Decides owner owner).1 refl) refl

-- ---- whether there is room

-- a list that does not exist does not end in the position, so there would be room for it
pub none_can_add : (kind : Collection) (owner : List ℕ) (place : ℕ) (ls : List Listing) → CanAdd (λ k o. is_same_list k o kind owner) place ls
    → first_from (is_list kind owner) 0 ls ≡ None → ⊥
unfolding places_of
none_can_add kind owner place ls can none =
    let is : find (is_list kind owner) ls ≡ None = list_at (is_list kind owner) ls ∙ ap (list_found ls) none in
    none_room kind owner ls (can.room kind owner (rw (own_list kind owner, is) refl)) none

pub can_add_at : (kind : Collection) (owner : List ℕ) (place at : ℕ) (ls : List Listing) → CanAdd (λ k o. is_same_list k o kind owner) place ls
    → first_from (is_list kind owner) 0 ls ≡ Some at → ends_in place (places_found (slice_get ls at)) ≡ false → 1 ≤ room_found (slice_get ls at)
unfolding places_of
can_add_at kind owner place at ls can is other =
    let same : find (is_list kind owner) ls ≡ slice_get ls at = list_at (is_list kind owner) ls ∙ ap (list_found ls) is in
    room_there kind owner ls at (can.room kind owner (rw (own_list kind owner, same, other) refl)) is

-- ---- what is added

pub nothing_added : (listed : Collection → List ℕ → Bool) (place : ℕ) (l : List Listing) → ((k : Collection) (o : List ℕ) → is_lacking place (places_of k o l) (listed k o) ≡ false)
    → AddsOnce listed place l l
nothing_added listed place l none = record {
  places = λ k o. rw (none k o) (sym (append-nil (places_of k o l)));
  room = λ k o. rw (none k o) (omega arith);
}

-- whether the position is missing from one list
lacking-one : (kind : Collection) (owner : List ℕ) (place : ℕ) (l : List Listing) (k : Collection) (o : List ℕ)
    → is_lacking place (places_of k o l) (is_same_list k o kind owner) ≡ (is_same_list k o kind owner && not (ends_in place (places_of kind owner l)))
lacking-one kind owner place l k o =
    elim (is_same_list k o kind owner) as (λ b. is_same_list k o kind owner ≡ b → (b && not (ends_in place (places_of k o l))) ≡ (b && not (ends_in place (places_of kind owner l)))) [
      | true ↦ λ e.
          let parts = and_parts (is_same kind k) (bytes_eq owner o) e in
          rw (← same_kind kind k parts.0, ← (bytes_eq-Decides owner o).0 parts.1) refl
      | false ↦ λ e. refl
    ] refl

one_there : (kind : Collection) (owner : List ℕ) (place : ℕ) (l : List Listing) → ends_in place (places_of kind owner l) ≡ true
    → AddsOnce (λ k o. is_same_list k o kind owner) place l l
one_there kind owner place l there =
    nothing_added (λ k o. is_same_list k o kind owner) place l (λ k o. lacking-one kind owner place l k o ∙ rw there (and_none (is_same_list k o kind owner)))

one_put : (kind : Collection) (owner : List ℕ) (place : ℕ) (old new : List Listing) → ends_in place (places_of kind owner old) ≡ false
    → HasOneMore kind owner (at_end place) old new → AddsOnce (λ k o. is_same_list k o kind owner) place old new
one_put kind owner place old new other h =
    let same : (k : Collection) (o : List ℕ) → is_same_list k o kind owner ≡ is_lacking place (places_of k o old) (is_same_list k o kind owner) =
    λ k o. sym (lacking-one kind owner place old k o ∙ rw other (with_true (is_same_list k o kind owner))) in record {
      places = λ k o.
          h.places k o ∙ put_last (is_same_list k o kind owner) (places_of k o old)
          ∙ ap (λ (b : Bool). places_of k o old ++ (if b then place ∷ [] else [])) (same k o);
      room = λ k o. rw (← same k o) (h.room k o);
    }
  where
    put_last : (b : Bool) (ps : List ℕ) → (if b then at_end place ps else ps) ≡ ps ++ (if b then place ∷ [] else [])
    put_last true ps = refl
    put_last false ps = sym (append-nil ps)

    with_true : (a : Bool) → (a && true) ≡ a
    with_true true = refl
    with_true false = refl

found_at : (kind : Collection) (owner : List ℕ) (at : ℕ) (ls : List Listing) → first_from (is_list kind owner) 0 ls ≡ Some at → places_of kind owner ls ≡ places_found (slice_get ls at)
unfolding places_of
found_at kind owner at ls is = ap places_found (list_at (is_list kind owner) ls ∙ ap (list_found ls) is)

pub pushed_once : (kind : Collection) (owner : List ℕ) (place at : ℕ) (ls : List Listing) → first_from (is_list kind owner) 0 ls ≡ Some at
    → AddsOnce (λ k o. is_same_list k o kind owner) place ls (pushed_at at place ls)
pushed_once kind owner place at ls is =
    let same : places_of kind owner ls ≡ places_found (slice_get ls at) = found_at kind owner at ls is in
    elim (ends_in place (places_found (slice_get ls at))) as (λ b. ends_in place (places_found (slice_get ls at)) ≡ b
    → AddsOnce (λ k o. is_same_list k o kind owner) place ls (if b then ls else grown_at at (at_end place) ls)) [
      | true ↦ λ e. one_there kind owner place ls (ap (ends_in place) same ∙ e)
      | false ↦ λ e. one_put kind owner place ls (grown_at at (at_end place) ls) (ap (ends_in place) same ∙ e) (one_added kind owner (at_end place) at ls is)
    ] refl

pub pushed_marks : (seed : Seed) (at place n : ℕ) (ls : List Listing) → marks_from every (list_mark seed) n (pushed_at at place ls) ≡ marks_from every (list_mark seed) n ls
pushed_marks seed at place n ls =
    elim (ends_in place (places_found (slice_get ls at))) as (λ b. marks_from every (list_mark seed) n (if b then ls else grown_at at (at_end place) ls) ≡ marks_from every (list_mark seed) n ls) [
      | true ↦ refl
      | false ↦ grown_marks seed at (at_end place) n ls
    ]
