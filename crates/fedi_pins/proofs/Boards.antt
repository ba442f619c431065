-- The list of a member's collections, and what a page of it costs.
use Rattle.std.proofs.Common.{◌≡◌, ◌<◌, ◌≤◌, ℕ, zero, suc, ◌+◌, ◌*◌, arith, Bool, true, false, List, [], ◌∷◌, Some, None, length, drop, take, nat_eq, nat_lt, get_or, refl, sym, ap, subst, ◌∙◌}
use Rattle.std.specs.Prelude.{◌&&◌, filter, map, not, if◌then◌else◌}
use Rattle.std.specs.Borrow.{Bor}
use Rattle.std.specs.BTreeMap.{BTreeMap}
use Rattle.std.specs.List.{sum_by}
use Rattle.std.proofs.lemmas.Bool.{lt-ltb, ne_eqb}
use Rattle.std.proofs.lemmas.List.{drop-map, length-map, take-map, take_all}
use Rattle.std.proofs.lemmas.List.Sums.{sum_by-cons, sum_by-take-le, sum_by_more, sum-map}
use Rattle.fedi_town.proofs.Lists.{filter-through}
use Rattle.fedi_town.specs.declared.caller.Caller.{Caller}
use Rattle.fedi_town.specs.Boards.{boards, is_board, is_filled_by, pinned, pinned_by}
use Rattle.fedi_town.specs.Seeing.{seen}
use Rattle.fedi_town.specs.Towns.{Town}
use Rattle.fedi_visible.specs.Pins.{pin_places}
use Rattle.fedi_visible.proofs.Pages.{IsPageOf}
use Rattle.fedi_visible.specs.declared.shelf.VisiblePage.{VisiblePage}
use Rattle.fedi_pins.proofs.Changes.{opened_boards}
use Rattle.fedi_pins.proofs.Holding.{filter-both, filter-where}
use Rattle.fedi_pins.proofs.Listed.{listed_held}
use Rattle.fedi_pins.proofs.Positions.{holder_is}
use Rattle.fedi_pins.proofs.Slugs.{none_board, slug_board, slug_id}
use Rattle.fedi_pins.specs.declared.pins.Listing.{Listing}
use Rattle.fedi_pins.specs.declared.pins.Listing.TheVariants.{Objects, Boards}
use Rattle.fedi_pins.specs.Costs.{board_cost, cost_if, items_cost}
use Rattle.fedi_pins.specs.Held.{holder, is_filled, is_filled_first, is_holder, is_place, item_at, opened, slug_of}
use Rattle.fedi_pins.specs.Maps.{place_in}
use Rattle.fedi_pins.specs.Pages.{IsPage}

-- among ids of collections, it is enough that there is something in them
filled-boards : (t : Town) (c : Caller) (author : List ℕ) → filter (is_filled t c author) (opened t c author) ≡ boards t c author
unfolding is_filled
filled-boards t c author =
    filter-where (is_board author) (is_filled t c author) (is_filled_by author (seen t c)) (λ id is. rw is refl) (opened t c author) (opened_boards t c author)

-- the list is what the Adds are about by which a collection is listed that is not empty
pub boards_held : (t : Town) (c : Caller) (author board : List ℕ)
    → map (item_at t Boards) (filter (is_filled_first t c author board (pin_places t author)) (pin_places t author)) ≡ boards t c author
unfolding is_filled_first
boards_held t c author board =
    let places : List ℕ = pin_places t author in
    let key : ℕ → List ℕ = item_at t Boards in
    ap (map key) (filter-both (λ place. is_filled t c author (key place)) (is_holder t c Boards author board places) places)
    ∙ sym (filter-through key (is_filled t c author) (λ place. is_filled t c author (key place)) (λ place. refl) (filter (is_holder t c Boards author board places) places))
    ∙ ap (filter (is_filled t c author)) (listed_held t c Boards author board)
    ∙ filled-boards t c author

-- ---- costs

-- what is counted only where a test passes
sum-where : (p : ℕ → Bool) (f : ℕ → ℕ) (xs : List ℕ) → sum_by (λ x. if p x then f x else 0) xs ≡ sum_by f (filter p xs)
sum-where p f [] = refl
sum-where p f (x ∷ xs) =
    sum_by-cons (λ y. if p y then f y else 0) x xs
    ∙ elim (p x) as (λ b. (if b then f x else 0) + sum_by (λ y. if p y then f y else 0) xs ≡ sum_by f (if b then x ∷ filter p xs else filter p xs)) [
      | true ↦ ap (λ (n : ℕ). f x + n) (sum-where p f xs) ∙ sym (sum_by-cons f x (filter p xs))
      | false ↦ omega (arith, sum-where p f xs)
    ]

-- the most reads for the collection to which this position may be the first Add
abbrev pub cost_at : ℕ → Town → Caller → List ℕ → List ℕ → List ℕ → ℕ → ℕ
cost_at look t c author board places place = cost_if (is_holder t c Boards author board places place) look t (item_at t Boards place)

map-twice : (key : ℕ → List ℕ) (f : List ℕ → ℕ) (xs : List ℕ) → map f (map key xs) ≡ map (λ x. f (key x)) xs
map-twice key f [] = refl
map-twice key f (x ∷ xs) = ap (λ (ys : List ℕ). f (key x) ∷ ys) (map-twice key f xs)

opened_cost : (look : ℕ) (t : Town) (c : Caller) (author board : List ℕ)
    → sum_by (cost_at look t c author board (pin_places t author)) (pin_places t author) ≡ sum_by (board_cost look t) (opened t c author)
opened_cost look t c author board =
    let places : List ℕ = pin_places t author in
    let holds : ℕ → Bool = is_holder t c Boards author board places in
    let key : ℕ → List ℕ = item_at t Boards in
    sum-where holds (λ place. board_cost look t (key place)) places
    ∙ sym (sum-map (λ place. board_cost look t (key place)) (filter holds places))
    ∙ ap (λ (ns : List ℕ). sum_by (λ n. n) ns) (sym (map-twice key (board_cost look t) (filter holds places)))
    ∙ sum-map (board_cost look t) (map key (filter holds places))
    ∙ ap (sum_by (board_cost look t)) (listed_held t c Boards author board)

-- one position more was read
pub cost_more : (look : ℕ) (t : Town) (c : Caller) (author board : List ℕ) (places : List ℕ) (m : BTreeMap (Bor (List ℕ)) ℕ)
    → ((id : List ℕ) → place_in m id ≡ holder t c Boards author board places id) → (i place first steps more : ℕ) → i < length places → place ≡ get_or places i 0
    → steps ≤ first + (((look + length places) + i) + sum_by (cost_at look t c author board places) (take i places))
    → more ≤ (steps + 1) + cost_if (is_place place (place_in m (item_at t Boards place))) look t (item_at t Boards place)
    → more ≤ first + (((look + length places) + (i + 1)) + sum_by (cost_at look t c author board places) (take (i + 1) places))
cost_more look t c author board places m h i place first steps more within at so_far one =
    let costs : ℕ → ℕ = cost_at look t c author board places in
    let here : more ≤ (steps + 1) + costs place =
    subst (λ (held : Bool). more ≤ (steps + 1) + cost_if held look t (item_at t Boards place)) (holder_is t c Boards author board places m h place) one in
    let next : sum_by costs (take (i + 1) places) ≡ sum_by costs (take i places) + costs place = sum_by_more costs places i 0 within ∙ rw (← at) refl in
    omega (arith, so_far, here, next)

-- so many reads are within the bound
pub cost_within : (look : ℕ) (t : Town) (c : Caller) (author board : List ℕ) (places : List ℕ) (i first steps : ℕ) → places ≡ pin_places t author → i ≤ length places
    → steps ≤ first + (((look + length places) + i) + sum_by (cost_at look t c author board places) (take i places))
    → steps ≤ first + items_cost look t c author None
cost_within look t c author board places i first steps are past so_far =
    let costs : ℕ → ℕ = cost_at look t c author board places in
    let part : sum_by costs (take i places) ≤ sum_by costs places = sum_by-take-le costs places i in
    let all : sum_by costs places ≡ sum_by (board_cost look t) (opened t c author) = rw are (opened_cost look t c author board) in
    let many : length places ≡ length (pin_places t author) = ap (λ (ps : List ℕ). length ps) are in
    omega (arith, past, so_far, part, all, many)

-- ---- pages

-- the items at the positions that were gathered are a page of the items
pub page_gathered : (t : Town) (k : Listing) (number : ℕ) (p : ℕ → Bool) (places : List ℕ) (i : ℕ) (ids : List (List ℕ)) (page : VisiblePage)
    → length places ≤ i → map (item_at t k) (filter p places) ≡ ids → IsPageOf number (filter p (take i places)) page.total page.places.items
    → IsPage t k ids number page
page_gathered t k number p places i ids page past same gathered =
    let key : ℕ → List ℕ = item_at t k in
    let all : filter p (take i places) ≡ filter p places = ap (filter p) (take_all i places past) in
    record {
      total = gathered.total ∙ ap (λ (xs : List ℕ). length xs) all ∙ sym (length-map (filter p places) key) ∙ ap (λ (xs : List (List ℕ)). length xs) same;
      items = ap (map key) (gathered.places ∙ ap (λ (xs : List ℕ). take 20 (drop (20 * number) xs)) all)
          ∙ sym (take-map key 20 (drop (20 * number) (filter p places)))
          ∙ ap (take 20) (sym (drop-map key (20 * number) (filter p places)) ∙ ap (drop (20 * number)) same);
    }

-- ---- one position of the list

-- what was found out about a position is whether the list has it
pub filled_first : (t : Town) (c : Caller) (author board : List ℕ) (places : List ℕ) (m : BTreeMap (Bor (List ℕ)) ℕ)
    → ((id : List ℕ) → place_in m id ≡ holder t c Boards author board places id) → (place : ℕ) (b : Bool)
    → b ≡ (is_filled t c author (item_at t Boards place) && is_place place (place_in m (item_at t Boards place)))
    → b ≡ is_filled_first t c author board places place
unfolding is_filled_first
filled_first t c author board places m h place b is =
    is ∙ ap (λ (held : Bool). is_filled t c author (item_at t Boards place) && held) (holder_is t c Boards author board places m h place)

-- ---- whether a collection is empty

some-not_none : (n : ℕ) → nat_lt 0 n ≡ not (nat_eq n 0)
some-not_none zero = refl
some-not_none (suc n) = rw (lt-ltb 0 (suc n) (omega arith), ne_eqb (suc n) 0 (λ same. omega (arith, same))) refl

pub filled_page : (t : Town) (c : Caller) (author board slug : List ℕ) (number : ℕ) (page : VisiblePage) → Some slug ≡ slug_of author board
    → IsPage t Objects (pinned t c author slug) number page → nat_lt 0 page.total ≡ is_filled t c author board
unfolding is_filled
filled_page t c author board slug number page found here =
    some-not_none page.total
    ∙ ap (λ (n : ℕ). not (nat_eq n 0)) (here.total ∙ ap (λ (id : List ℕ). length (pinned_by author id (seen t c))) (sym (slug_id author board slug found)))
    ∙ rw (slug_board author board slug found) refl

pub none_filled : (t : Town) (c : Caller) (author board : List ℕ) → None ≡ slug_of author board → false ≡ is_filled t c author board
unfolding is_filled
none_filled t c author board none = rw (none_board author board none) refl
