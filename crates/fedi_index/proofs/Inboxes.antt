-- A known activity is added to one more inbox: its position is added to the list of that inbox, in
-- order, and no other list changes.
use Rattle.std.proofs.Common.{◌≡◌, ℕ, suc, zero, ◌+◌, ◌<◌, ◌≤◌, arith, Bool, true, false, List, [], ◌∷◌, ◌++◌, Option, Some, None, refl, sym, ap, subst, ◌∙◌, get_or, length, ltb}
use Rattle.std.specs.Prelude.{◌&&◌, map, if◌then◌else◌}
use Rattle.std.specs.List.{list_any, position_or_len}
use Rattle.std.specs.List.Sorted.{IsNonDecreasing, IsPartitionPoint}
use Rattle.std.specs.Str.{bytes_eq}
use Rattle.std.proofs.lemmas.Bool.{and_parts, le-ltb, lt-ltb, not-true, or_parts}
use Rattle.std.proofs.lemmas.List.Folds.{list_any-append}
use Rattle.fedi_address.specs.Recipients.{is_among}
use Rattle.fedi_index.specs.declared.collection.Collection.{Collection}
use Rattle.fedi_index.specs.declared.collection.Collection.TheVariants as kinds
use Rattle.fedi_index.specs.Candidates.{belongs, is_same}
use Rattle.fedi_visible.specs.Pins.{is_directed, is_pin_kind_by}
use Rattle.fedi_visible.specs.Places.{places_from}
use Rattle.fedi_index.specs.Growing.{AreCandidates, MayGo, in_order, is_kept}
use Rattle.fedi_index.specs.Lists.{HasOneMore, Listing, at_index, is_same_list, places_of}
use Rattle.fedi_index.proofs.Positions.{places-mapped, places-same}
use Rattle.fedi_index.proofs.SameKind.{same_kind}
use Rattle.fedi_register.specs.Changes.{place_where}
use Rattle.fedi_register.proofs.Once.{place_any}
use Rattle.fedi_town.specs.declared.act.Act.{Act}
use Rattle.fedi_town.specs.Addressing.{is_of_town}
use Rattle.fedi_town.specs.Histories.{with_recipient}
use Rattle.fedi_town.specs.Lists.{PassesOnce}
use Rattle.fedi_town.specs.Relations.{has_activity_id, is_about}
use Rattle.fedi_town.specs.Towns.{Town, is_by}
use Rattle.fedi_town.proofs.Texts.{bytes_eq-is, bytes_eq-same, or_no, or_true}

-- ---- the positions are in order

-- ordered positions are still in order if one that is not above them is put first
first_ordered : (n : ℕ) (ps : List ℕ) → ((i d : ℕ) → i < length ps → n ≤ get_or ps i d) → IsNonDecreasing ps → IsNonDecreasing (n ∷ ps)
first_ordered n ps above ordered zero zero d le within = omega arith
first_ordered n ps above ordered zero (suc j) d le within = above j d (omega (arith, within))
first_ordered n ps above ordered (suc i) zero d le within = absurd (omega (arith, le))
first_ordered n ps above ordered (suc i) (suc j) d le within = ordered i j d (omega (arith, le)) (omega (arith, within))

-- no position is below the first
first_above : (n : ℕ) (ps : List ℕ) → ((i d : ℕ) → i < length ps → n ≤ get_or ps i d) → (i d : ℕ) → i < length (n ∷ ps) → n ≤ get_or (n ∷ ps) i d
first_above n ps above zero d there = omega arith
first_above n ps above (suc i) d there = above i d (omega (arith, there))

places_above : (p : Act → Bool) (n : ℕ) (acts : List Act) (i d : ℕ) → i < length (places_from p n acts) → n ≤ get_or (places_from p n acts) i d
places_above p n [] i d within = absurd (omega (arith, within))
places_above p n (x ∷ acts) i d within =
    elim (p x) as (λ b. i < length (if b then n ∷ places_from p (suc n) acts else places_from p (suc n) acts)
    → n ≤ get_or (if b then n ∷ places_from p (suc n) acts else places_from p (suc n) acts) i d) [
      | true ↦ first_above n (places_from p (suc n) acts) (λ k e there. omega (arith, places_above p (suc n) acts k e there)) i d
      | false ↦ λ there. omega (arith, places_above p (suc n) acts i d there)
    ] within

pub places_ordered : (p : Act → Bool) (n : ℕ) (acts : List Act) → IsNonDecreasing (places_from p n acts)
places_ordered p n [] = λ i j d le within. absurd (omega (arith, within))
places_ordered p n (x ∷ acts) =
    elim (p x) as (λ b. IsNonDecreasing (if b then n ∷ places_from p (suc n) acts else places_from p (suc n) acts)) [
      | true ↦ first_ordered n (places_from p (suc n) acts) (λ i d there. omega (arith, places_above p (suc n) acts i d there)) (places_ordered p (suc n) acts)
      | false ↦ places_ordered p (suc n) acts
    ]

-- the insertion is in order if the positions before the index are below the new one and the others
-- are not
pub put_in_order : (place index : ℕ) (ps : List ℕ) → index ≤ length ps → IsPartitionPoint (λ y. ltb y place ≡ true) (λ y. ltb y place ≡ false) ps index
    → at_index index place ps ≡ in_order place ps
put_in_order place zero [] within point = refl
put_in_order place (suc index) [] within point = absurd (omega (arith, within))
put_in_order place zero (p ∷ ps) within point =
    let high : ltb p place ≡ false = point.1 0 0 (omega arith) (omega arith) in
    rw high refl
put_in_order place (suc index) (p ∷ ps) within point =
    let low : ltb p place ≡ true = point.0 0 0 (omega arith) (omega arith) in
    rw low (ap (λ (qs : List ℕ). p ∷ qs) (put_in_order place index ps (omega (arith, within)) (
      λ k d above below. point.0 (suc k) d (omega arith) (omega (arith, below)),
      λ k d above below. point.1 (suc k) d (omega (arith, above)) (omega (arith, below)),
    )))

-- ---- the position of the one that passes

-- the positions after it do not change
none_passes : (p has : Act → Bool) (f : Act → Act) → ((y : Act) → has y ≡ false → p (f y) ≡ p y) → (n : ℕ) (acts : List Act) → list_any has acts ≡ false
    → places_from p n (map f acts) ≡ places_from p n acts
none_passes p has f out n [] none = refl
none_passes p has f out n (x ∷ acts) none =
    let parts = or_parts (has x) (list_any has acts) none in
    rw (out x parts.0, none_passes p has f out (suc n) acts parts.1) refl

first_in : (place : ℕ) (p : Act → Bool) (n : ℕ) (acts : List Act) → place < n → in_order place (places_from p n acts) ≡ place ∷ places_from p n acts
first_in place p n [] before = refl
first_in place p n (x ∷ acts) before =
    elim (p x) as (λ b. in_order place (if b then n ∷ places_from p (suc n) acts else places_from p (suc n) acts) ≡ place ∷ (if b then n ∷ places_from p (suc n) acts else places_from p (suc n) acts)) [
      | true ↦ let above : ltb n place ≡ false = le-ltb n place (omega (arith, before)) in rw above refl
      | false ↦ first_in place p (suc n) acts (omega (arith, before))
    ]

-- one activity has the id and is no candidate: when it becomes one, its position is added to the
-- list
pub one_comes_in : (p has : Act → Bool) (f : Act → Act) → ((y : Act) → has y ≡ true → p (f y) ≡ true) → ((y : Act) → has y ≡ false → p (f y) ≡ p y) → (n : ℕ) (acts : List Act)
    → PassesOnce has acts → list_any (λ x. has x && p x) acts ≡ false → list_any has acts ≡ true
    → places_from p n (map f acts) ≡ in_order (position_or_len has acts + n) (places_from p n acts)
one_comes_in p has f here out n [] once lacking any = absurd cc
one_comes_in p has f here out n (x ∷ acts) once lacking any =
    let parts = or_parts (has x && p x) (list_any (λ y. has y && p y) acts) lacking in
    elim (has x) as (λ b. has x ≡ b → places_from p n (map f (x ∷ acts)) ≡ in_order (position_or_len has (x ∷ acts) + n) (places_from p n (x ∷ acts))) [
      | true ↦ λ e.
          let was : p x ≡ false = rw e at parts.0 in
          let at : 0 + n ≡ n = omega arith in
          let new : places_from p n (map f (x ∷ acts)) ≡ n ∷ places_from p (suc n) acts =
          rw (here x e) (ap (λ (ps : List ℕ). n ∷ ps) (none_passes p has f out (suc n) acts (once.0 e))) in
          let old : in_order (position_or_len has (x ∷ acts) + n) (places_from p n (x ∷ acts)) ≡ n ∷ places_from p (suc n) acts =
          rw (e, was, at) (first_in n p (suc n) acts (omega arith)) in
          new ∙ sym old
      | false ↦ λ e.
          let rest = one_comes_in p has f here out (suc n) acts once.1 parts.1 (rw e at any) in
          let at : 1 + position_or_len has acts + n ≡ position_or_len has acts + suc n = omega arith in
          let place : ℕ = position_or_len has acts + suc n in
          let below : ltb n place ≡ true = lt-ltb n place (omega arith) in
          rw (e, out x e, at) (elim (p x) as (λ b. (if b then n ∷ places_from p (suc n) (map f acts) else places_from p (suc n) (map f acts))
          ≡ in_order place (if b then n ∷ places_from p (suc n) acts else places_from p (suc n) acts)) [
            | true ↦ rw below (ap (λ (ps : List ℕ). n ∷ ps) rest)
            | false ↦ rest
          ])
    ] refl

-- ---- the lists

-- adding an activity to one more inbox does not change whether it is a candidate of any other list
passed : (owner : List ℕ) (k : Collection) (o : List ℕ) (y : Act) → is_same_list k o kinds.Inbox owner ≡ false → belongs k o (record y { recipients = y.recipients ++ owner ∷ [] }) ≡ belongs k o y
unfolding belongs is_by is_about is_among is_directed is_pin_kind_by
passed owner kinds.Inbox o y other = list_any-append (λ u. bytes_eq u o) y.recipients (owner ∷ []) ∙ rw other (or_no (list_any (λ u. bytes_eq u o) y.recipients))
passed owner kinds.Outbox o y other = refl
passed owner kinds.Followers o y other = refl
passed owner kinds.Following o y other = refl
passed owner kinds.Liked o y other = refl
passed owner kinds.Likes o y other = refl
passed owner kinds.Shares o y other = refl
passed owner kinds.Pins o y other = refl
passed owner kinds.Board o y other = refl

other_list : (host : Option (List ℕ)) (id owner : List ℕ) (k : Collection) (o : List ℕ) → is_same_list k o kinds.Inbox owner ≡ false → (y : Act)
    → is_kept host k o (with_recipient id owner y) ≡ is_kept host k o y
unfolding is_kept
other_list host id owner k o other y =
    ap (λ (b : Bool). is_of_town host o && b)
    (elim (has_activity_id id y) as (λ b. belongs k o (if b then record y { recipients = y.recipients ++ owner ∷ [] } else y) ≡ belongs k o y) [
      | true ↦ passed owner k o y other
      | false ↦ refl
    ])

-- the test of the inbox of an owner of this host
own_inbox : (host : Option (List ℕ)) (owner : List ℕ) → is_of_town host owner ≡ true → (x : Act) → is_kept host kinds.Inbox owner x ≡ is_among owner x.recipients
unfolding is_kept belongs
own_inbox host owner here x = rw here refl

comes_there : (id owner : List ℕ) (y : Act) → has_activity_id id y ≡ true → is_among owner (with_recipient id owner y).recipients ≡ true
unfolding is_among
comes_there id owner y is =
    rw is (list_any-append (λ u. bytes_eq u owner) y.recipients (owner ∷ []) ∙ rw (bytes_eq-same owner) (or_true (list_any (λ u. bytes_eq u owner) y.recipients)))

stays : (id owner : List ℕ) (y : Act) → has_activity_id id y ≡ false → is_among owner (with_recipient id owner y).recipients ≡ is_among owner y.recipients
stays id owner y isnt = rw isnt refl

-- the position of the activity
placed : (has : Act → Bool) (acts : List Act) (place : ℕ) → place_where has acts ≡ Some place → (list_any has acts ≡ true) × (position_or_len has acts ≡ place)
placed has acts place is =
    elim (ltb (position_or_len has acts) (length acts)) as (λ b. ltb (position_or_len has acts) (length acts) ≡ b → (if b then Some (position_or_len has acts) else None) ≡ Some place
    → (list_any has acts ≡ true) × (position_or_len has acts ≡ place)) [
      | true ↦ λ e h. (sym (place_any has acts) ∙ e, cc)
      | false ↦ λ e h. absurd cc
    ] refl is

not_placed : (has : Act → Bool) (acts : List Act) → place_where has acts ≡ None → list_any has acts ≡ false
not_placed has acts is =
    elim (ltb (position_or_len has acts) (length acts)) as (λ b. ltb (position_or_len has acts) (length acts) ≡ b → (if b then Some (position_or_len has acts) else None) ≡ None → list_any has acts ≡ false) [
      | true ↦ λ e h. absurd cc
      | false ↦ λ e h. sym (place_any has acts) ∙ e
    ] refl is

-- the positions in the owner's inbox afterwards
inbox_after : (t : Town) (id owner : List ℕ) (place : ℕ) → MayGo t id owner → place_where (has_activity_id id) t.acts ≡ Some place
    → places_from (is_kept t.host kinds.Inbox owner) 0 (map (with_recipient id owner) t.acts) ≡ in_order place (places_from (is_kept t.host kinds.Inbox owner) 0 t.acts)
inbox_after t id owner place go is =
    let own : Act → Bool = λ x. is_among owner x.recipients in
    let same = own_inbox t.host owner go.here in
    let there = placed (has_activity_id id) t.acts place is in
    let at : position_or_len (has_activity_id id) t.acts + 0 ≡ place = omega (arith, there.1) in
    places-same (is_kept t.host kinds.Inbox owner) own same 0 (map (with_recipient id owner) t.acts)
    ∙ one_comes_in own (has_activity_id id) (with_recipient id owner) (comes_there id owner) (stays id owner) 0 t.acts go.once (not-true _ go.lacking) there.0
    ∙ ap (λ (k : ℕ). in_order k (places_from own 0 t.acts)) at
    ∙ ap (in_order place) (sym (places-same (is_kept t.host kinds.Inbox owner) own same 0 t.acts))

-- the position was added to the list of the inbox, so the lists are those of the activities
-- afterwards
pub inbox_added : (t : Town) (id owner : List ℕ) (place index : ℕ) (old new : List Listing) → MayGo t id owner → place_where (has_activity_id id) t.acts ≡ Some place
    → at_index index place (places_of kinds.Inbox owner old) ≡ in_order place (places_of kinds.Inbox owner old) → HasOneMore kinds.Inbox owner (at_index index place) old new
    → AreCandidates t.host t.acts old → AreCandidates t.host (map (with_recipient id owner) t.acts) new
inbox_added t id owner place index old new go is ordered more are = record {
  places = λ k o. more.places k o ∙ elim (is_same_list k o kinds.Inbox owner) as (λ b. is_same_list k o kinds.Inbox owner ≡ b
      → (if b then at_index index place (places_of k o old) else places_of k o old) ≡ places_from (is_kept t.host k o) 0 (map (with_recipient id owner) t.acts)) [
        | true ↦ λ e.
            let parts = and_parts (is_same kinds.Inbox k) (bytes_eq owner o) e in
            rw (← same_kind kinds.Inbox k parts.0, ← bytes_eq-is owner o parts.1)
            (ordered ∙ ap (in_order place) (are.places kinds.Inbox owner) ∙ sym (inbox_after t id owner place go is))
        | false ↦ λ e. are.places k o ∙ sym (places-mapped (is_kept t.host k o) (with_recipient id owner) (other_list t.host id owner k o e) 0 t.acts)
      ] refl;
}

-- there is no activity with this id, so none changes
pub nothing_changed : (t : Town) (id owner : List ℕ) (lists : List Listing) → place_where (has_activity_id id) t.acts ≡ None → AreCandidates t.host t.acts lists
    → AreCandidates t.host (map (with_recipient id owner) t.acts) lists
nothing_changed t id owner lists is are = subst (λ (xs : List Act). AreCandidates t.host xs lists) (sym (unchanged t.acts (not_placed (has_activity_id id) t.acts is))) are
  where
    unchanged : (acts : List Act) → list_any (has_activity_id id) acts ≡ false → map (with_recipient id owner) acts ≡ acts
    unchanged [] none = refl
    unchanged (x ∷ acts) none = let parts = or_parts (has_activity_id id x) (list_any (has_activity_id id) acts) none in rw (parts.0, unchanged acts parts.1) refl
