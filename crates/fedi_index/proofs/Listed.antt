-- The items of a collection are among its candidates.
use Rattle.std.proofs.Common.{◌≡◌, ◌<◌, ◌≤◌, ℕ, zero, suc, ◌+◌, arith, Bool, true, false, List, [], ◌∷◌, ◌++◌, Some, ◌*◌, drop, get_or, length, take, refl, ap, subst, ◌∙◌}
use Rattle.std.specs.Prelude.{◌&&◌, filter, map, slice_get, if◌then◌else◌}
use Rattle.std.specs.List.{range_with_len}
use Rattle.std.proofs.lemmas.Bool.{and_parts}
use Rattle.std.proofs.lemmas.List.{append-nil}
use Rattle.std.proofs.lemmas.List.Elements.{filter_more}
use Rattle.fedi_index.specs.Candidates.{belongs, is_candidate}
use Rattle.fedi_visible.specs.Places.{places_from}
use Rattle.fedi_visible.specs.Places.{is_first, is_first_of, is_listed, is_seen_item, places}
use Rattle.fedi_visible.proofs.Items.{page_placed, places_counted}
use Rattle.fedi_town.specs.declared.act.Act.{Act}
use Rattle.fedi_town.specs.declared.caller.Caller.{Caller}
use Rattle.fedi_town.specs.declared.caller.Which.{Which}
use Rattle.fedi_town.specs.declared.caller.Which.TheVariants.{Inbox, Outbox, Followers, Following, Liked, Likes, Shares}
use Rattle.fedi_town.specs.Collections.{is_item, items}
use Rattle.fedi_town.specs.Deeds.{is_accepted, is_announce, is_follow, is_like, is_standing}
use Rattle.fedi_town.specs.Relations.{is_about, is_following}
use Rattle.fedi_town.specs.Seeing.{sees}
use Rattle.fedi_town.specs.Towns.{Town, deed, is_by}
use Rattle.fedi_town.proofs.Texts.{is_false}

-- ---- an item is a candidate

in_any_state : (does stands own : Bool) → ((does && stands) && own) ≡ true → (does && own) ≡ true
in_any_state true true own is = is
in_any_state true false own is = absurd cc
in_any_state false stands own is = absurd cc

item-belongs : (which : Which) (id : List ℕ) (x : Act) → is_item which id x ≡ true → is_candidate which id x ≡ true
unfolding is_item belongs is_following
item-belongs (Inbox name) id x is = is
item-belongs (Outbox name) id x is = is
item-belongs (Followers name) id x is = in_any_state (is_follow (deed x)) (is_accepted x.state) (is_about id x) is
item-belongs (Following name) id x is = in_any_state (is_follow (deed x)) (is_accepted x.state) (is_by id x) is
item-belongs (Liked name) id x is = in_any_state (is_like (deed x)) (is_standing x.state) (is_by id x) is
item-belongs (Likes name number) id x is = in_any_state (is_like (deed x)) (is_standing x.state) (is_about id x) is
item-belongs (Shares name number) id x is = in_any_state (is_announce (deed x)) (is_standing x.state) (is_about id x) is

listed-belongs : (t : Town) (c : Caller) (which : Which) (id : List ℕ) (place : ℕ) (x : Act) → slice_get t.acts place ≡ Some x → is_listed t c which id place ≡ true
    → is_candidate which id x ≡ true
unfolding is_listed is_first is_seen_item
listed-belongs t c which id place x at listed =
    let here : is_first_of t c which id (take place t.acts) (Some x) ≡ true = rw at at listed in
    item-belongs which id x (and_parts (is_item which id x) (sees t c x) (and_parts (is_item which id x && sees t c x) _ here).0).0

-- ---- the candidates that pass are all activities that pass

filtered : (p : ℕ → Bool) (q : Act → Bool) (n : ℕ) (xs : List Act) → ((i : ℕ) (x : Act) → slice_get xs i ≡ Some x → p (n + i) ≡ true → q x ≡ true)
    → filter p (places_from q n xs) ≡ filter p (range_with_len n (length xs))
filtered p q n [] so = refl
filtered p q n (x ∷ xs) so =
    let next : n + 1 ≡ suc n = omega arith in
    let here : n + 0 ≡ n = omega arith in
    let rest : filter p (places_from q (suc n) xs) ≡ filter p (range_with_len (n + 1) (length xs)) =
    rw next (filtered p q (suc n) xs (λ i y at is. let further : n + suc i ≡ suc n + i = omega arith in so (suc i) y at (rw further is))) in
    elim (q x) as (λ b. q x ≡ b → filter p (if b then n ∷ places_from q (suc n) xs else places_from q (suc n) xs)
    ≡ (if p n then n ∷ filter p (range_with_len (n + 1) (length xs)) else filter p (range_with_len (n + 1) (length xs)))) [
      | true ↦ λ e. rw rest refl
      | false ↦ λ e.
          let none : p n ≡ false = is_false (p n) (λ is. let yes : q x ≡ true = so 0 x refl (rw here is) in absurd cc) in
          rw none rest
    ] refl

-- the items among the candidates are all items
pub listed_candidates : (t : Town) (c : Caller) (which : Which) (id : List ℕ) → filter (is_listed t c which id) (places_from (is_candidate which id) 0 t.acts) ≡ places t c which id
listed_candidates t c which id =
    filtered (is_listed t c which id) (is_candidate which id) 0 t.acts (λ i x at is. let from_none : 0 + i ≡ i = omega arith in listed-belongs t c which id i x at (rw from_none at is))

-- ---- one candidate after the other

within-first : (n i : ℕ) (ps : List ℕ) (all : ℕ) → ((j : ℕ) → j < length ps → get_or ps j 0 < suc n + all) → i < length (n ∷ ps) → get_or (n ∷ ps) i 0 < n + suc all
within-first n zero ps all rest h = omega arith
within-first n (suc i) ps all rest h = let later = rest i (omega (arith, h)) in omega (arith, later)

places-within : (q : Act → Bool) (n i : ℕ) (xs : List Act) → i < length (places_from q n xs) → get_or (places_from q n xs) i 0 < n + length xs
places-within q n i [] within = absurd (omega (arith, within))
places-within q n i (x ∷ xs) within =
    elim (q x) as (λ b. i < length (if b then n ∷ places_from q (suc n) xs else places_from q (suc n) xs)
    → get_or (if b then n ∷ places_from q (suc n) xs else places_from q (suc n) xs) i 0 < n + length (x ∷ xs)) [
      | true ↦ λ h. within-first n i (places_from q (suc n) xs) (length xs) (λ j k. places-within q (suc n) j xs k) h
      | false ↦ λ h. let rest = places-within q (suc n) i xs h in omega (arith, rest)
    ] within

-- there is an activity at the position of a candidate
pub candidate_there : (q : Act → Bool) (i : ℕ) (acts : List Act) (places : List ℕ) (place : ℕ) → places ≡ places_from q 0 acts → i < length places → place ≡ get_or places i 0
    → place < length acts
candidate_there q i acts places place are within at =
    let h = places-within q 0 i acts (rw are at within) in
    rw (at, are) (omega (arith, h))

-- one more candidate
pub one_more_listed : (p : ℕ → Bool) (places : List ℕ) (i place : ℕ) → i < length places → place ≡ get_or places i 0 → p place ≡ true
    → filter p (take (i + 1) places) ≡ filter p (take i places) ++ place ∷ []
one_more_listed p places i place within at listed = filter_more p places i 0 within ∙ rw (← at, listed) refl

pub none_more_listed : (p : ℕ → Bool) (places : List ℕ) (i place : ℕ) → i < length places → place ≡ get_or places i 0 → p place ≡ false
    → filter p (take (i + 1) places) ≡ filter p (take i places)
none_more_listed p places i place within at other = filter_more p places i 0 within ∙ rw (← at, other) (append-nil (filter p (take i places)))

-- ---- a candidate passes

after-first : (n i : ℕ) (ps : List ℕ) → ((j : ℕ) → j < length ps → suc n ≤ get_or ps j 0) → i < length (n ∷ ps) → n ≤ get_or (n ∷ ps) i 0
after-first n zero ps rest h = omega arith
after-first n (suc i) ps rest h = let later = rest i (omega (arith, h)) in omega (arith, later)

places-after : (q : Act → Bool) (n i : ℕ) (xs : List Act) → i < length (places_from q n xs) → n ≤ get_or (places_from q n xs) i 0
places-after q n i [] within = absurd (omega (arith, within))
places-after q n i (x ∷ xs) within =
    elim (q x) as (λ b. i < length (if b then n ∷ places_from q (suc n) xs else places_from q (suc n) xs)
    → n ≤ get_or (if b then n ∷ places_from q (suc n) xs else places_from q (suc n) xs) i 0) [
      | true ↦ λ h. after-first n i (places_from q (suc n) xs) (λ j k. places-after q (suc n) j xs k) h
      | false ↦ λ h. let rest = places-after q (suc n) i xs h in omega (arith, rest)
    ] within

passes-later : (q : Act → Bool) (n i k : ℕ) (x y : Act) (ys : List Act)
    → ((j : ℕ) → get_or (places_from q (suc n) ys) i 0 ≡ suc n + j → Some x ≡ slice_get ys j → q x ≡ true)
    → i < length (places_from q (suc n) ys) → get_or (places_from q (suc n) ys) i 0 ≡ n + k → Some x ≡ slice_get (y ∷ ys) k → q x ≡ true
passes-later q n i zero x y ys rest within at is = let low = places-after q (suc n) i ys within in absurd (omega (arith, low, at))
passes-later q n i (suc k) x y ys rest within at is = rest k (omega (arith, at)) is

passes-first : (q : Act → Bool) (k : ℕ) (x y : Act) (ys : List Act) → q y ≡ true → k ≡ 0 → Some x ≡ slice_get (y ∷ ys) k → q x ≡ true
passes-first q zero x y ys passing none is = let same : x ≡ y = cc in rw same passing
passes-first q (suc k) x y ys passing none is = absurd (omega (arith, none))

passes-here : (q : Act → Bool) (n i k : ℕ) (x y : Act) (ys : List Act) → q y ≡ true
    → ((i j : ℕ) → i < length (places_from q (suc n) ys) → get_or (places_from q (suc n) ys) i 0 ≡ suc n + j → Some x ≡ slice_get ys j → q x ≡ true)
    → i < length (n ∷ places_from q (suc n) ys) → get_or (n ∷ places_from q (suc n) ys) i 0 ≡ n + k → Some x ≡ slice_get (y ∷ ys) k → q x ≡ true
passes-here q n zero k x y ys passing rest within at is = passes-first q k x y ys passing (omega (arith, at)) is
passes-here q n (suc i) k x y ys passing rest within at is =
    let later : i < length (places_from q (suc n) ys) = omega (arith, within) in
    passes-later q n i k x y ys (λ j b c. rest i j later b c) later at is

passes : (q : Act → Bool) (n i k : ℕ) (x : Act) (xs : List Act) → i < length (places_from q n xs) → get_or (places_from q n xs) i 0 ≡ n + k → Some x ≡ slice_get xs k
    → q x ≡ true
passes q n i k x [] within at is = absurd (omega (arith, within))
passes q n i k x (y ∷ ys) within at is =
    let rest : (i j : ℕ) → i < length (places_from q (suc n) ys) → get_or (places_from q (suc n) ys) i 0 ≡ suc n + j → Some x ≡ slice_get ys j → q x ≡ true =
    λ i j a b c. passes q (suc n) i j x ys a b c in
    elim (q y) as (λ b. q y ≡ b → i < length (if b then n ∷ places_from q (suc n) ys else places_from q (suc n) ys)
    → get_or (if b then n ∷ places_from q (suc n) ys else places_from q (suc n) ys) i 0 ≡ n + k → q x ≡ true) [
      | true ↦ λ e h a. passes-here q n i k x y ys e rest h a is
      | false ↦ λ e h a. passes-later q n i k x y ys (λ j b c. rest i j h b c) h a is
    ] refl within at

-- the activity at the position of a candidate is one
pub candidate_passes : (q : Act → Bool) (i : ℕ) (acts : List Act) (places : List ℕ) (place : ℕ) (x : Act) → places ≡ places_from q 0 acts → i < length places
    → place ≡ get_or places i 0 → Some x ≡ slice_get acts place → q x ≡ true
candidate_passes q i acts places place x are within at is =
    let here : get_or (places_from q 0 acts) i 0 ≡ 0 + place = let none : 0 + place ≡ place = omega arith in rw (none, at, are) refl in
    let inside : i < length (places_from q 0 acts) = subst (λ (ps : List ℕ). i < length ps) are within in
    passes q 0 i place x acts inside here is

-- ---- the page

pub page_total : (u t : Town) (c : Caller) (which : Which) (id : List ℕ) (total : ℕ) (candidates : List ℕ) → u ≡ t → candidates ≡ places_from (is_candidate which id) 0 t.acts
    → total ≡ length (filter (is_listed u c which id) candidates) → total ≡ length (items t c which id)
page_total u t c which id total candidates same are is =
    is ∙ rw (same, are) (ap (λ (ps : List ℕ). length ps) (listed_candidates t c which id)) ∙ places_counted t c which id

pub page_places : (u t : Town) (c : Caller) (which : Which) (id : List ℕ) (number : ℕ) (found candidates : List ℕ) → u ≡ t → candidates ≡ places_from (is_candidate which id) 0 t.acts
    → found ≡ take 20 (drop (20 * number) (filter (is_listed u c which id) candidates))
    → map (slice_get t.acts) found ≡ map Some (take 20 (drop (20 * number) (items t c which id)))
page_places u t c which id number found candidates same are is =
    page_placed t c which id number found
    (is ∙ rw (same, are) (ap (λ (ps : List ℕ). take 20 (drop (20 * number) ps)) (listed_candidates t c which id)))
