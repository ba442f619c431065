-- The positions of the activities that pass, as activities are added and changed.
use Rattle.std.proofs.Common.{◌≡◌, ℕ, suc, ◌+◌, ◌≤◌, arith, Bool, true, false, List, [], ◌∷◌, ◌++◌, Option, Some, None, refl, sym, ap, ◌∙◌, length, nat_eq}
use Rattle.std.specs.Prelude.{◌-◌, map, slice_get, if◌then◌else◌}
use Rattle.std.proofs.lemmas.Bool.{ne_eqb}
use Rattle.std.proofs.lemmas.List.{append-nil}
use Rattle.fedi_index.specs.declared.collection.Collection.{Collection}
use Rattle.fedi_visible.specs.Places.{places_from}
use Rattle.fedi_visible.proofs.Scanned.{places-more}
use Rattle.fedi_index.specs.Growing.{AreCandidates, HasRoom, UsesOne, is_kept}
use Rattle.fedi_index.specs.Lists.{AddsOnce, CanAdd, Listing, ends_in, is_lacking, places_of, room_of}
use Rattle.fedi_town.specs.declared.act.Act.{Act}
use Rattle.std.proofs.lemmas.Bool.{and_parts}

pub places-mapped : (p : Act → Bool) (f : Act → Act) → ((x : Act) → p (f x) ≡ p x) → (n : ℕ) (acts : List Act) → places_from p n (map f acts) ≡ places_from p n acts
places-mapped p f same n [] = refl
places-mapped p f same n (x ∷ acts) = rw (same x, places-mapped p f same (suc n) acts) refl

pub places-same : (p q : Act → Bool) → ((x : Act) → p x ≡ q x) → (n : ℕ) (acts : List Act) → places_from p n acts ≡ places_from q n acts
places-same p q same n [] = refl
places-same p q same n (x ∷ acts) = rw (same x, places-same p q same (suc n) acts) refl

ends-later : (place n : ℕ) (ps : List ℕ) → nat_eq n place ≡ false → ends_in place ps ≡ false → ends_in place (n ∷ ps) ≡ false
ends-later place n [] other none = other
ends-later place n (p ∷ ps) other none = none

-- no position is past the last
pub no_end : (p : Act → Bool) (n place : ℕ) (acts : List Act) → n + length acts ≤ place → ends_in place (places_from p n acts) ≡ false
no_end p n place [] past = refl
no_end p n place (x ∷ acts) past =
    let rest = no_end p (suc n) place acts (omega (arith, past)) in
    elim (p x) as (λ b. ends_in place (if b then n ∷ places_from p (suc n) acts else places_from p (suc n) acts) ≡ false) [
      | true ↦ ends-later place n (places_from p (suc n) acts) (ne_eqb n place (λ same. omega (arith, past, same))) rest
      | false ↦ rest
    ]

one-lacks : (place : ℕ) (ps : List ℕ) (listed : Bool) → ends_in place ps ≡ false → is_lacking place ps listed ≡ listed
one-lacks place ps true none = rw none refl
one-lacks place ps false none = refl

-- after an activity was added, the lists are those of the activities with it
pub candidates_added : (host : Option (List ℕ)) (acts : List Act) (x : Act) (place : ℕ) (old new : List Listing) → place ≡ length acts
    → AddsOnce (λ k o. is_kept host k o x) place old new → AreCandidates host acts old → AreCandidates host (acts ++ x ∷ []) new
candidates_added host acts x place old new at h are = record {
  places = λ k o.
      let own : Act → Bool = is_kept host k o in
      let none : ends_in place (places_of k o old) ≡ false = rw (are.places k o) (no_end own 0 place acts (omega (arith, at))) in
      let last : 0 + length acts ≡ place = omega (arith, at) in
      h.places k o
      ∙ ap (λ (b : Bool). places_of k o old ++ (if b then place ∷ [] else [])) (one-lacks place (places_of k o old) (own x) none)
      ∙ ap (λ (ps : List ℕ). ps ++ (if own x then place ∷ [] else [])) (are.places k o)
      ∙ sym (places-more own 0 acts (x ∷ []) ∙ ap (λ (n : ℕ). places_from own 0 acts ++ places_from own n (x ∷ [])) last);
}

pub none_added : (host : Option (List ℕ)) (acts : List Act) (lists : List Listing) → AreCandidates host acts lists → AreCandidates host (acts ++ []) lists
none_added host acts lists are = rw (append-nil acts) are

-- ---- room

pub can_add : (listed : Collection → List ℕ → Bool) (place : ℕ) (lists : List Listing) → HasRoom listed 1 lists → CanAdd listed place lists
can_add listed place lists h = record { room = λ k o is. h.room k o (and_parts (listed k o) _ is).0 }

cost-one : (b : Bool) (m n : ℕ) → m ≤ n + (if b then 1 else 0) → m ≤ n + 1
cost-one true m n h = h
cost-one false m n h = omega (arith, h)

pub one_used : (listed : Collection → List ℕ → Bool) (place : ℕ) (old new : List Listing) → AddsOnce listed place old new → UsesOne old new
one_used listed place old new h = record { room = λ k o. cost-one (is_lacking place (places_of k o old) (listed k o)) (room_of k o old) (room_of k o new) (h.room k o) }

pub none_used : (lists : List Listing) → UsesOne lists lists
none_used lists = record { room = λ k o. omega arith }

-- there is a last position, and it is this one
abbrev pub is_last : ℕ → Option ℕ → Bool
is_last place None = false
is_last place (Some p) = nat_eq p place

pub ends_is : (place : ℕ) (ps : List ℕ) (last : Option ℕ) → last ≡ slice_get ps (length ps - 1) → is_last place last ≡ ends_in place ps
ends_is place [] last is = rw is refl
ends_is place (p ∷ []) last is = rw is refl
ends_is place (p ∷ q ∷ ps) last is =
    let further : length (p ∷ q ∷ ps) - 1 ≡ suc (length (q ∷ ps) - 1) = omega arith in
    ends_is place (q ∷ ps) last (is ∙ ap (λ (k : ℕ). slice_get (p ∷ q ∷ ps) k) further)
