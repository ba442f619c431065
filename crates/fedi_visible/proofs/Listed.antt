-- The items of a collection are at the positions that are the first of their item.
use Rattle.std.proofs.Common.{◌≡◌, ℕ, ◌+◌, Bool, true, false, List, [], ◌∷◌, ◌++◌, Option, Some, length, take, refl, sym, ap, subst, ◌∙◌, append_assoc}
use Rattle.std.specs.Prelude.{◌&&◌, filter, map, if◌then◌else◌}
use Rattle.std.specs.List.{list_any, range_with_len, slice_get}
use Rattle.std.proofs.lemmas.List.{append-nil, length_push, map-append, take_at}
use Rattle.fedi_town.specs.declared.act.Act.{Act}
use Rattle.fedi_town.specs.declared.caller.Caller.{Caller}
use Rattle.fedi_town.specs.declared.caller.Which.{Which}
use Rattle.fedi_town.specs.declared.caller.Which.TheVariants.{Inbox, Outbox, Followers, Following, Liked, Likes, Shares}
use Rattle.fedi_town.specs.Collections.{is_item, is_same_item, items}
use Rattle.fedi_town.specs.Lists.{firsts}
use Rattle.fedi_town.specs.Seeing.{sees}
use Rattle.fedi_town.specs.Towns.{Town}
use Rattle.fedi_visible.specs.Places.{can_come_again, is_first, is_listed, is_same_seen, is_seen_item, places}
use Rattle.fedi_visible.proofs.Firsts.{filtered_more}

got_at : (before : List Act) (x : Act) (xs : List Act) → slice_get (before ++ x ∷ xs) (length before) ≡ Some x
got_at [] x xs = refl
got_at (y ∷ before) x xs = got_at before x xs

same_seen : (a b c : Bool) → (a && (b && c)) ≡ ((a && c) && b)
same_seen true true true = refl
same_seen true true false = refl
same_seen true false true = refl
same_seen true false false = refl
same_seen false b c = refl

-- the items among these
abbrev items_in : Town → Caller → Which → List ℕ → List Act → List Act
items_in t c which id acts = firsts (is_same_item which) (filter (is_seen_item t c which id) acts)

items-more : (t : Town) (c : Caller) (which : Which) (id : List ℕ) (before : List Act) (x : Act)
    → items_in t c which id (before ++ x ∷ []) ≡ items_in t c which id before ++ (if is_first t c which id before x then x ∷ [] else [])
unfolding is_first is_seen_item is_same_seen
items-more t c which id before x =
    filtered_more (is_same_item which) (is_seen_item t c which id) (is_same_seen t c which id x) before x
    (λ y. same_seen (is_item which id y) (is_same_item which y x) (sees t c y))

listed-at : (t : Town) (c : Caller) (which : Which) (id : List ℕ) (before : List Act) (x : Act) (xs : List Act) → t.acts ≡ before ++ x ∷ xs
    → is_listed t c which id (length before) ≡ is_first t c which id before x
unfolding is_listed
listed-at t c which id before x xs is =
    let front : take (length before) t.acts ≡ before = ap (take (length before)) is ∙ take_at before (x ∷ xs) (length before) refl in
    let here : slice_get t.acts (length before) ≡ Some x = ap (λ (acts : List Act). slice_get acts (length before)) is ∙ got_at before x xs in
    rw (front, here) refl

listed-after : (t : Town) (c : Caller) (which : Which) (id : List ℕ) (before xs : List Act) → t.acts ≡ before ++ xs
    → map Some (items_in t c which id before) ++ map (slice_get t.acts) (filter (is_listed t c which id) (range_with_len (length before) (length xs)))
    ≡ map Some (items_in t c which id (before ++ xs))
listed-after t c which id before [] is =
    append-nil (map Some (items_in t c which id before)) ∙ ap (λ (acts : List Act). map Some (items_in t c which id acts)) (sym (append-nil before))
listed-after t c which id before (x ∷ xs) is =
    let got : List ℕ → List (Option Act) = λ ns. map (slice_get t.acts) (filter (is_listed t c which id) ns) in
    let rest : map Some (items_in t c which id (before ++ x ∷ [])) ++ got (range_with_len (length before + 1) (length xs)) ≡ map Some (items_in t c which id (before ++ x ∷ xs)) =
    subst (λ (acts : List Act). map Some (items_in t c which id (before ++ x ∷ [])) ++ got (range_with_len (length before + 1) (length xs)) ≡ map Some (items_in t c which id acts))
    (append_assoc before (x ∷ []) xs)
    (subst (λ (n : ℕ). map Some (items_in t c which id (before ++ x ∷ [])) ++ got (range_with_len n (length xs)) ≡ map Some (items_in t c which id ((before ++ x ∷ []) ++ xs)))
    (length_push before x) (listed-after t c which id (before ++ x ∷ []) xs (is ∙ sym (append_assoc before (x ∷ []) xs)))) in
    let here : slice_get t.acts (length before) ≡ Some x = ap (λ (acts : List Act). slice_get acts (length before)) is ∙ got_at before x xs in
    let split : map Some (items_in t c which id (before ++ x ∷ [])) ≡ map Some (items_in t c which id before) ++ map Some (if is_first t c which id before x then x ∷ [] else []) =
    ap (map Some) (items-more t c which id before x) ∙ map-append Some (items_in t c which id before) (if is_first t c which id before x then x ∷ [] else []) in
    let Goal : Bool → Bool → Type 0 = λ b k. map Some (items_in t c which id before) ++ map (slice_get t.acts) (if b then length before ∷ filter (is_listed t c which id) (range_with_len (length before + 1) (length xs))
    else filter (is_listed t c which id) (range_with_len (length before + 1) (length xs)))
    ≡ (map Some (items_in t c which id before) ++ map Some (if k then x ∷ [] else [])) ++ got (range_with_len (length before + 1) (length xs)) in
    let step : Goal (is_listed t c which id (length before)) (is_first t c which id before x) =
    rw (listed-at t c which id before x xs is) (elim (is_first t c which id before x) as (λ b. Goal b b) [
      | true ↦ ap (λ (o : Option Act). map Some (items_in t c which id before) ++ o ∷ got (range_with_len (length before + 1) (length xs))) here
          ∙ sym (append_assoc (map Some (items_in t c which id before)) (Some x ∷ []) (got (range_with_len (length before + 1) (length xs))))
      | false ↦ ap (λ (ys : List (Option Act)). ys ++ got (range_with_len (length before + 1) (length xs))) (sym (append-nil (map Some (items_in t c which id before))))
    ]) in
    step ∙ ap (λ (ys : List (Option Act)). ys ++ got (range_with_len (length before + 1) (length xs))) (sym split) ∙ rest

filter-filter : {A : Type 0} (p q : A → Bool) (xs : List A) → filter p (filter q xs) ≡ filter (λ x. p x && q x) xs
filter-filter p q [] = refl
filter-filter {A} p q (x ∷ xs) =
    elim (q x) as (λ b. filter p (if b then x ∷ filter q xs else filter q xs) ≡ (if p x && b then x ∷ filter (λ y. p y && q y) xs else filter (λ y. p y && q y) xs)) [
      | true ↦ elim (p x) as (λ b. (if b then x ∷ filter p (filter q xs) else filter p (filter q xs)) ≡ (if b && true then x ∷ filter (λ y. p y && q y) xs else filter (λ y. p y && q y) xs)) [
        | true ↦ ap (λ (ys : List A). x ∷ ys) (filter-filter p q xs)
        | false ↦ filter-filter p q xs
      ]
      | false ↦ elim (p x) as (λ b. filter p (filter q xs) ≡ (if b && false then x ∷ filter (λ y. p y && q y) xs else filter (λ y. p y && q y) xs)) [ true ↦ filter-filter p q xs | false ↦ filter-filter p q xs ]
    ]

-- the items are at these positions
pub items_placed : (t : Town) (c : Caller) (which : Which) (id : List ℕ) → map (slice_get t.acts) (places t c which id) ≡ map Some (items t c which id)
unfolding is_seen_item
items_placed t c which id =
    listed-after t c which id [] t.acts refl ∙ ap (λ (acts : List Act). map Some (firsts (is_same_item which) acts)) (sym (filter-filter (is_item which id) (sees t c) t.acts))

any_none : {A : Type 0} (p : A → Bool) (xs : List A) → ((x : A) → p x ≡ false) → list_any p xs ≡ false
any_none p [] none = refl
any_none p (x ∷ xs) none = rw (none x) (any_none p xs none)

and_none : (a b : Bool) → (a && (false && b)) ≡ false
and_none true b = refl
and_none false b = refl

none-same : (t : Town) (c : Caller) (which : Which) (id : List ℕ) (x : Act) (before : List Act) → ((y : Act) → is_same_item which y x ≡ false)
    → false ≡ list_any (is_same_seen t c which id x) before
unfolding is_same_seen
none-same t c which id x before none =
    sym (any_none (is_same_seen t c which id x) before (λ y. rw (none y) (and_none (is_item which id y) (sees t c y))))

-- if an item cannot be repeated, no two activities are the same
pub none_again : (t : Town) (c : Caller) (which : Which) (id : List ℕ) (x : Act) (before : List Act) (again : Bool) → again ≡ can_come_again which → again ≡ false
    → again ≡ list_any (is_same_seen t c which id x) before
unfolding is_same_item
none_again t c (Inbox name) id x before again is none = none ∙ none-same t c (Inbox name) id x before (λ y. refl)
none_again t c (Outbox name) id x before again is none = none ∙ none-same t c (Outbox name) id x before (λ y. refl)
none_again t c (Followers name) id x before again is none = absurd cc
none_again t c (Following name) id x before again is none = absurd cc
none_again t c (Liked name) id x before again is none = none ∙ none-same t c (Liked name) id x before (λ y. refl)
none_again t c (Likes name number) id x before again is none = none ∙ none-same t c (Likes name number) id x before (λ y. refl)
none_again t c (Shares name number) id x before again is none = none ∙ none-same t c (Shares name number) id x before (λ y. refl)
