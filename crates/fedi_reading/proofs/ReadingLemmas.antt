-- Lists of values, as their data.
use Rattle.std.proofs.Common.{◌≡◌, ℕ, ◌+◌, ◌<◌, List, [], ◌∷◌, ◌++◌, append-nil, map, take, drop, drop-cons, find, get_or, length, Bool, true, false, cond, ◌||◌, Option, Some, None, refl, ap, sym, ◌∙◌}
use Rattle.std.specs.Prelude.{◌≢◌, Ok, Err}
use Rattle.std.proofs.lemmas.List.{take_more, take-append-drop, map_push}
use Rattle.std.proofs.lemmas.List.Sums.{fold-append}
use Rattle.std.proofs.lemmas.List.Folds.{list_any-append, list_any_at, find-append}
use Rattle.std.proofs.lemmas.List.Elements.{filter_map-append}
use Rattle.std.specs.List.{list_any, filter_map, cons_option}
use Rattle.serde_json.specs.Data.{Data}
use Rattle.serde_json.specs.View.{items_of}
use Rattle.fedi_address.specs.Recipients.{add_new}
use Rattle.fedi_reading.specs.Activities.{one_entry}
use Rattle.fedi_reading.specs.Properties.{list_of}
use Rattle.fedi_reading.specs.Reading.{is_bad, recipient_of, reads_entry, add_all}
use Rattle.fedi_reading.specs.declared.shape_fault.ShapeFault.{ShapeFault}
use Rattle.fedi_reading.specs.declared.shape_fault.ShapeFault.TheVariants.{BadIri}

-- the items of a list are its entries
pub list_of_items : (ds : List Data) → list_of (items_of ds) ≡ ds
list_of_items [] = refl
list_of_items (d ∷ ds) = ap (λ es. d ∷ es) (list_of_items ds)

-- a list that does not have exactly one entry counts as absent
pub none_of_many : {X : Type 0} (f : X → Data) (xs : List X) → length xs ≢ 1 → one_entry (items_of (map f xs)) ≡ None
none_of_many f [] h = refl
none_of_many f (y ∷ []) h = absurd (h refl)
none_of_many f (y ∷ (z ∷ ys)) h = refl

-- a test of the data of the elements
pub list_any_map : {X Y : Type 0} (f : X → Y) (p : Y → Bool) (xs : List X) → list_any p (map f xs) ≡ list_any (λ x. p (f x)) xs
list_any_map f p [] = refl
list_any_map f p (x ∷ xs) = ap (λ b. p (f x) || b) (list_any_map f p xs)

-- one more element, as at a step of a loop
pub map_take_more : {X Y : Type 0} (f : X → Y) (xs : List X) (i : ℕ) (x : X) → i < length xs → map f (take (i + 1) xs) ≡ map f (take i xs) ++ f (get_or xs i x) ∷ []
map_take_more f xs i x h = ap (map f) (take_more xs i x h) ∙ map_push f (take i xs) (get_or xs i x)

-- a search continues after an element that does not pass
pub find_past : {X : Type 0} (p : X → Bool) (xs : List X) (i : ℕ) (x : X) → i < length xs → find p (take i xs) ≡ None → p (get_or xs i x) ≡ false → find p (take (i + 1) xs) ≡ None
find_past p xs i x h none fails = rw (take_more xs i x h, find-append p (take i xs) (get_or xs i x ∷ []), none, fails) refl

-- a search finds the first element that passes
pub find_here : {X : Type 0} (p : X → Bool) (xs : List X) (i : ℕ) (x : X) → i < length xs → find p (take i xs) ≡ None → p (get_or xs i x) ≡ true → find p xs ≡ Some (get_or xs i x)
find_here p xs i x h none passes =
    sym (ap (find p) (take-append-drop i xs)) ∙ find-append p (take i xs) (drop i xs) ∙ rw (none, drop-cons xs i x h, passes) refl

-- an entry that is read is not bad
entry_ok : (d : Data) (o : Option (List ℕ)) → reads_entry d ≡ Ok o → (is_bad d ≡ false) × (recipient_of d ≡ o)
unfolding reads_entry
entry_ok d o = elim (is_bad d) as (λ b. cond b (Err BadIri) (Ok (recipient_of d)) ≡ Ok o → (b ≡ false) × (recipient_of d ≡ o)) [ true ↦ λ h. cc | false ↦ λ h. (refl, cc) ]

-- an entry that is not read is bad
entry_err : (d : Data) (e : ShapeFault) → reads_entry d ≡ Err e → (is_bad d ≡ true) × (e ≡ BadIri)
unfolding reads_entry
entry_err d e = elim (is_bad d) as (λ b. cond b (Err BadIri) (Ok (recipient_of d)) ≡ Err e → (b ≡ true) × (e ≡ BadIri)) [ true ↦ λ h. (refl, cc) | false ↦ λ h. cc ]

-- What is kept of the entries so far, none of which is bad, after what was there at the start.
pub record HasRead (start : List (List ℕ)) (ds : List Data) (kept : List (List ℕ)) : Type 0 where
  pub good : list_any is_bad ds ≡ false
  pub once : kept ≡ add_all start ds

pub none_read : (start : List (List ℕ)) → HasRead start [] start
none_read start = record { good = refl; once = refl }

goes_past : (ds : List Data) (d : Data) → list_any is_bad ds ≡ false → is_bad d ≡ false → list_any is_bad (ds ++ d ∷ []) ≡ false
goes_past ds d h k = rw (list_any-append is_bad ds (d ∷ []), h, k) refl

pub read_past : (start : List (List ℕ)) (ds : List Data) (d : Data) (kept : List (List ℕ)) → HasRead start ds kept → reads_entry d ≡ Ok None → HasRead start (ds ++ d ∷ []) kept
read_past start ds d kept h e =
    let read = entry_ok d None e in
    record {
      good = goes_past ds d h.good read.0;
      once = rw (filter_map-append recipient_of ds (d ∷ []), read.1, append-nil) h.once;
    }

pub read_more : (start : List (List ℕ)) (ds : List Data) (d : Data) (kept : List (List ℕ)) (text : List ℕ) → HasRead start ds kept → reads_entry d ≡ Ok (Some text) → HasRead start (ds ++ d ∷ []) (add_new kept text)
read_more start ds d kept text h e =
    let read = entry_ok d (Some text) e in
    record {
      good = goes_past ds d h.good read.0;
      once = rw (filter_map-append recipient_of ds (d ∷ []), read.1, fold-append add_new start (filter_map recipient_of ds) (text ∷ []), ← h.once) refl;
    }

-- none is bad if one more is read
pub stays_good : (ds : List Data) (d : Data) (o : Option (List ℕ)) → list_any is_bad ds ≡ false → reads_entry d ≡ Ok o → list_any is_bad (ds ++ d ∷ []) ≡ false
stays_good ds d o h e = goes_past ds d h (entry_ok d o e).0

-- if one entry is bad, the list has a bad entry
pub finds_bad : {X : Type 0} (f : X → Data) (xs : List X) (i : ℕ) (x : X) (e : ShapeFault) → i < length xs → reads_entry (f (get_or xs i x)) ≡ Err e → (e ≡ BadIri) × (list_any is_bad (map f xs) ≡ true)
finds_bad f xs i x e h k =
    let bad = entry_err (f (get_or xs i x)) e k in
    (bad.1, list_any_map f is_bad xs ∙ list_any_at (λ y. is_bad (f y)) xs i x h bad.0)

-- one more element is tried
pub filter_map_more : {X Y : Type 0} (h : X → Option Y) (xs : List X) (x : X) (o : Option Y) → h x ≡ o → filter_map h (xs ++ x ∷ []) ≡ filter_map h xs ++ cons_option o []
filter_map_more h xs x o e = rw (filter_map-append h xs (x ∷ []), e) refl
