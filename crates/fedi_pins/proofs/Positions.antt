-- What a map holds after an id was put in or taken out, and after one position more.
use Rattle.std.proofs.Common.{◌≡◌, ◌<◌, ◌≤◌, ℕ, suc, ◌+◌, arith, Bool, true, false, List, [], ◌∷◌, ◌++◌, length, take, Option, Some, None, get_or, refl, sym, ap, subst, ◌∙◌}
use Rattle.std.specs.Prelude.{◌&&◌, cond, filter, nat_lt, slice_get, unwrap_or, if◌then◌else◌}
use Rattle.std.specs.Borrow.{Bor}
use Rattle.std.specs.BTreeMap.{BTreeMap}
use Rattle.std.specs.List.{fold, list_all}
use Rattle.std.specs.Str.{bytes_eq}
use Rattle.std.proofs.lemmas.Bool.{and_from, lt-ltb, ltb-true, ne_eqb}
use Rattle.std.proofs.lemmas.List.{append-nil, take_all}
use Rattle.std.proofs.lemmas.List.Elements.{filter_more}
use Rattle.std.proofs.lemmas.List.Folds.{list_all_at}
use Rattle.std.proofs.lemmas.List.Sums.{fold_more}
use Rattle.fedi_town.proofs.Texts.{bytes_eq-is, not_both}
use Rattle.fedi_town.specs.declared.act.Act.{Act}
use Rattle.fedi_town.specs.declared.caller.Caller.{Caller}
use Rattle.fedi_town.specs.Boards.{is_remove}
use Rattle.fedi_town.specs.Towns.{Town}
use Rattle.fedi_visible.specs.Pins.{directed_places, is_directed, is_pin_kind_by, pin_places}
use Rattle.fedi_visible.specs.Places.{places_from}
use Rattle.fedi_pins.specs.declared.pins.Listing.{Listing}
use Rattle.fedi_pins.specs.Held.{held_at, held_found, holder, is_holder, is_place, is_remove_at, is_seen_change, item_at, item_key}
use Rattle.fedi_pins.specs.Maps.{HasAddsAlone, are_there, place_in}

-- ---- one id

-- the id was put in, which was not there
pub put_new : (f g : List ℕ → Option ℕ) (id : List ℕ) (place : ℕ) → f id ≡ None → ((other : List ℕ) → g other ≡ cond (bytes_eq id other) (Some place) (f other))
    → (other : List ℕ) → g other ≡ (if bytes_eq id other then Some (unwrap_or (f other) place) else f other)
put_new f g id place none is other =
    is other ∙ elim (bytes_eq id other) as (λ b. bytes_eq id other ≡ b → cond b (Some place) (f other) ≡ (if b then Some (unwrap_or (f other) place) else f other)) [
      | true ↦ λ e. let nothing : f other ≡ None = subst (λ (i : List ℕ). f i ≡ None) (bytes_eq-is id other e) none in rw nothing refl
      | false ↦ λ e. refl
    ] refl

-- it was there, and got its position back
pub put_back : (f g h : List ℕ → Option ℕ) (id : List ℕ) (place first : ℕ) → f id ≡ Some first → ((other : List ℕ) → g other ≡ cond (bytes_eq id other) (Some place) (f other))
    → ((other : List ℕ) → h other ≡ cond (bytes_eq id other) (Some first) (g other)) → (other : List ℕ) → h other ≡ (if bytes_eq id other then Some (unwrap_or (f other) place) else f other)
put_back f g h id place first there one two other =
    two other ∙ elim (bytes_eq id other) as (λ b. bytes_eq id other ≡ b → cond b (Some first) (g other) ≡ (if b then Some (unwrap_or (f other) place) else f other)) [
      | true ↦ λ e. let some : f other ≡ Some first = subst (λ (i : List ℕ). f i ≡ Some first) (bytes_eq-is id other e) there in rw some refl
      | false ↦ λ e. one other ∙ rw e refl
    ] refl

-- ---- positions of candidates

all_below : (q : Act → Bool) (n m : ℕ) (xs : List Act) → n + length xs ≤ m → list_all (λ place. nat_lt place m) (places_from q n xs) ≡ true
all_below q n m [] within = refl
all_below q n m (x ∷ xs) within =
    let rest = all_below q (suc n) m xs (omega (arith, within)) in
    elim (q x) as (λ b. list_all (λ place. nat_lt place m) (if b then n ∷ places_from q (suc n) xs else places_from q (suc n) xs) ≡ true) [
      | true ↦ and_from (nat_lt n m) (list_all (λ place. nat_lt place m) (places_from q (suc n) xs)) (lt-ltb n m (omega (arith, within))) rest
      | false ↦ rest
    ]

-- there is an activity at each of them
pub directed_there : (t : Town) (board : List ℕ) → are_there t (directed_places t board) ≡ true
directed_there t board = all_below (is_directed board) 0 (length t.acts) t.acts (omega arith)

pub pins_there : (t : Town) (author : List ℕ) → are_there t (pin_places t author) ≡ true
pins_there t author = all_below (is_pin_kind_by author) 0 (length t.acts) t.acts (omega arith)

pub there_at : (t : Town) (places : List ℕ) (i place : ℕ) → are_there t places ≡ true → i < length places → place ≡ get_or places i 0 → place < length t.acts
there_at t places i place all within at =
    rw at (ltb-true (get_or places i 0) (length t.acts) (elim (nat_lt (get_or places i 0) (length t.acts)) as (λ b. nat_lt (get_or places i 0) (length t.acts) ≡ b → nat_lt (get_or places i 0) (length t.acts) ≡ true) [
      | true ↦ λ e. e
      | false ↦ λ e. absurd (not_both (are_there t places) all (list_all_at (λ p. nat_lt p (length t.acts)) places i 0 within e))
    ] refl))

-- ---- one position more

held_more : (t : Town) (c : Caller) (k : Listing) (author board id : List ℕ) (places : List ℕ) (i place : ℕ) → i < length places → place ≡ get_or places i 0
    → holder t c k author board (take (i + 1) places) id ≡ held_at t c k author board id (holder t c k author board (take i places) id) place
held_more t c k author board id places i place within at =
    fold_more (held_at t c k author board id) None places i 0 within ∙ rw (← at) refl

pub held_step : (t : Town) (c : Caller) (k : Listing) (author board : List ℕ) (places : List ℕ) (i place : ℕ) (old new : List ℕ → Option ℕ)
    → i < length places → place ≡ get_or places i 0
    → ((id : List ℕ) → old id ≡ holder t c k author board (take i places) id) → ((id : List ℕ) → new id ≡ held_at t c k author board id (old id) place)
    → (id : List ℕ) → new id ≡ holder t c k author board (take (i + 1) places) id
held_step t c k author board places i place old new within at before step id =
    step id ∙ ap (λ (h : Option ℕ). held_at t c k author board id h place) (before id) ∙ sym (held_more t c k author board id places i place within at)

pub held_all : (t : Town) (c : Caller) (k : Listing) (author board id : List ℕ) (places : List ℕ) (i : ℕ) → length places ≤ i
    → holder t c k author board (take i places) id ≡ holder t c k author board places id
held_all t c k author board id places i past = ap (λ (ps : List ℕ). holder t c k author board ps id) (take_all i places past)

pub one_more : (p : ℕ → Bool) (places : List ℕ) (i place : ℕ) → i < length places → place ≡ get_or places i 0 → p place ≡ true
    → filter p (take (i + 1) places) ≡ filter p (take i places) ++ place ∷ []
one_more p places i place within at is = filter_more p places i 0 within ∙ rw (← at, is) refl

pub none_more : (p : ℕ → Bool) (places : List ℕ) (i place : ℕ) → i < length places → place ≡ get_or places i 0 → p place ≡ false
    → filter p (take (i + 1) places) ≡ filter p (take i places)
none_more p places i place within at other = filter_more p places i 0 within ∙ rw (← at, other) (append-nil (filter p (take i places)))

-- what the map says of a position is what the positions do
pub holder_is : (t : Town) (c : Caller) (k : Listing) (author board : List ℕ) (places : List ℕ) (m : BTreeMap (Bor (List ℕ)) ℕ)
    → ((id : List ℕ) → place_in m id ≡ holder t c k author board places id)
    → (place : ℕ) → is_place place (place_in m (item_at t k place)) ≡ is_holder t c k author board places place
unfolding is_holder
holder_is t c k author board places m h place = ap (is_place place) (h (item_at t k place))

-- ---- what a map of Adds says of a Remove

adds_at : (t : Town) (c : Caller) (k : Listing) (author board id : List ℕ) (h : Option ℕ) (q : ℕ) → ((p : ℕ) → h ≡ Some p → is_remove_at t p ≡ false)
    → (p : ℕ) → held_at t c k author board id h q ≡ Some p → is_remove_at t p ≡ false
unfolding held_at is_remove_at
adds_at t c k author board id h q so_far p = found (slice_get t.acts q) refl
  where
    found : (x : Option Act) → slice_get t.acts q ≡ x → held_found t c k author board id h q x ≡ Some p → is_remove_at t p ≡ false
    found None e is = so_far p is
    found (Some x) e now =
        (elim (is_seen_change t c k author board x && bytes_eq (item_key k x) id) as (λ b. (if b then (if is_remove x.activity.kind then None else Some (unwrap_or h q)) else h) ≡ Some p → is_remove_at t p ≡ false) [
          | true ↦ elim (is_remove x.activity.kind) as (λ r. is_remove x.activity.kind ≡ r → (if r then None else Some (unwrap_or h q)) ≡ Some p → is_remove_at t p ≡ false) [
            | true ↦ λ r is. absurd cc
            | false ↦ λ r is. kept h refl r is
          ] refl
          | false ↦ λ is. so_far p is
        ]) now
      where
        kept : (o : Option ℕ) → h ≡ o → is_remove x.activity.kind ≡ false → Some (unwrap_or o q) ≡ Some p → is_remove_at t p ≡ false
        kept None o r is = let same : q ≡ p = cc in rw (← same, e) r
        kept (Some n) o r is = so_far p (o ∙ is)

adds_from : (t : Town) (c : Caller) (k : Listing) (author board id : List ℕ) (h : Option ℕ) (places : List ℕ) → ((p : ℕ) → h ≡ Some p → is_remove_at t p ≡ false)
    → (p : ℕ) → fold (held_at t c k author board id) h places ≡ Some p → is_remove_at t p ≡ false
adds_from t c k author board id h [] so_far p is = so_far p is
adds_from t c k author board id h (q ∷ qs) so_far p is =
    adds_from t c k author board id (held_at t c k author board id h q) qs (adds_at t c k author board id h q so_far) p is

-- the map has no position of a Remove
pub adds_alone : (t : Town) (c : Caller) (k : Listing) (author board : List ℕ) (places : List ℕ) (m : BTreeMap (Bor (List ℕ)) ℕ)
    → ((id : List ℕ) → place_in m id ≡ holder t c k author board places id) → HasAddsAlone t m
adds_alone t c k author board places m h id p is =
    adds_from t c k author board id None places (λ q no_place. absurd cc) p (sym (h id) ∙ is)

-- so it does not say of a Remove that its item is listed by it
pub not_by_a_remove : (t : Town) (m : BTreeMap (Bor (List ℕ)) ℕ) (id : List ℕ) (place : ℕ) → HasAddsAlone t m → is_remove_at t place ≡ true
    → is_place place (place_in m id) ≡ false
not_by_a_remove t m id place alone out = found (place_in m id) refl
  where
    found : (o : Option ℕ) → place_in m id ≡ o → is_place place o ≡ false
    found None e = refl
    found (Some p) e = ne_eqb p place (λ same. let stays : is_remove_at t p ≡ false = alone id p e in absurd cc)

-- what was found there is a Remove
pub found_remove : (t : Town) (place : ℕ) (x : Act) → slice_get t.acts place ≡ Some x → is_remove x.activity.kind ≡ true → is_remove_at t place ≡ true
unfolding is_remove_at
found_remove t place x there is = rw there is
