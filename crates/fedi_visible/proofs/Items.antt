-- What the positions of the items of a collection say about them.
use Rattle.std.proofs.Common.{◌≡◌, ℕ, ◌+◌, ◌*◌, arith, true, false, List, [], ◌∷◌, ◌++◌, Option, Some, length, take, drop, refl, sym, ap, ◌∙◌}
use Rattle.std.specs.Prelude.{filter, map, if◌then◌else◌}
use Rattle.std.specs.List.{range_with_len, slice_get}
use Rattle.std.proofs.lemmas.List.{append-nil, drop-map, length-map, map-id, take-map}
use Rattle.std.proofs.lemmas.List.FromFn.{filter_of_map_range_with_len_more}
use Rattle.fedi_town.specs.declared.act.Act.{Act}
use Rattle.fedi_town.specs.declared.caller.Caller.{Caller}
use Rattle.fedi_town.specs.declared.caller.Which.{Which}
use Rattle.fedi_town.specs.Collections.{items}
use Rattle.fedi_town.specs.Towns.{Town}
use Rattle.fedi_visible.specs.Places.{is_first, is_listed, places}
use Rattle.fedi_visible.proofs.Listed.{items_placed}

-- ---- how many there are

pub places_counted : (t : Town) (c : Caller) (which : Which) (id : List ℕ) → length (places t c which id) ≡ length (items t c which id)
places_counted t c which id =
    sym (length-map (places t c which id) (slice_get t.acts)) ∙ ap (λ (xs : List (Option Act)). length xs) (items_placed t c which id) ∙ length-map (items t c which id) Some

-- ---- those of a page

pub page_placed : (t : Town) (c : Caller) (which : Which) (id : List ℕ) (number : ℕ) (found : List ℕ) → found ≡ take 20 (drop (20 * number) (places t c which id))
    → map (slice_get t.acts) found ≡ map Some (take 20 (drop (20 * number) (items t c which id)))
page_placed t c which id number found is =
    rw is (sym (take-map (slice_get t.acts) 20 (drop (20 * number) (places t c which id)))
    ∙ ap (take 20) (sym (drop-map (slice_get t.acts) (20 * number) (places t c which id))
    ∙ ap (λ (xs : List (Option Act)). drop (20 * number) xs) (items_placed t c which id)
    ∙ drop-map Some (20 * number) (items t c which id))
    ∙ take-map Some 20 (drop (20 * number) (items t c which id)))

-- ---- one more position

-- the positions below a number that is one more
pub places_more : (t : Town) (c : Caller) (which : Which) (id : List ℕ) (n : ℕ)
    → filter (is_listed t c which id) (range_with_len 0 (n + 1))
    ≡ filter (is_listed t c which id) (range_with_len 0 n) ++ (if is_listed t c which id n then n ∷ [] else [])
places_more t c which id n =
    ap (filter (is_listed t c which id)) (sym (map-id (range_with_len 0 (n + 1))))
    ∙ filter_of_map_range_with_len_more (is_listed t c which id) (λ x. x) 0 n n (omega arith)
    ∙ ap (λ (xs : List ℕ). filter (is_listed t c which id) xs ++ (if is_listed t c which id n then n ∷ [] else [])) (map-id (range_with_len 0 n))

-- the positions of the items before this position
abbrev pub places_before : Town → Caller → Which → List ℕ → ℕ → List ℕ
places_before t c which id n = filter (is_listed t c which id) (range_with_len 0 n)

pub one_listed : (t : Town) (c : Caller) (which : Which) (id : List ℕ) (n : ℕ) → is_listed t c which id n ≡ true
    → places_before t c which id (n + 1) ≡ places_before t c which id n ++ n ∷ []
one_listed t c which id n listed = places_more t c which id n ∙ rw listed refl

pub none_listed : (t : Town) (c : Caller) (which : Which) (id : List ℕ) (n : ℕ) → is_listed t c which id n ≡ false
    → places_before t c which id (n + 1) ≡ places_before t c which id n
none_listed t c which id n other = places_more t c which id n ∙ rw other (append-nil (places_before t c which id n))

-- the activity at this position is an item if it is the first of its item
pub listed_there : (t : Town) (c : Caller) (which : Which) (id : List ℕ) (n : ℕ) (x : Act) → Some x ≡ slice_get t.acts n
    → is_listed t c which id n ≡ is_first t c which id (take n t.acts) x
unfolding is_listed
listed_there t c which id n x at = rw (← at) refl
