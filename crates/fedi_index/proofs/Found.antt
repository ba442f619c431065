-- Look-ups among lists.
use Rattle.std.proofs.Common.{◌≡◌, ℕ, zero, suc, ◌+◌, ◌-◌, ◌<◌, ◌≤◌, arith, Bool, true, false, List, [], ◌∷◌, ◌++◌, Option, Some, None, refl, sym, ap, ◌∙◌, length, ltb, append_assoc, set, Global}
use Rattle.std.specs.Prelude.{slice_get, is_some, option_map, vec_len, vec_capacity, if◌then◌else◌}
use Rattle.std.specs.List.{find, position_or_len}
use Rattle.std.specs.Str.{bytes_eq}
use Rattle.std.proofs.lemmas.Bool.{and_parts, lt-ltb}
use Rattle.std.proofs.lemmas.Slice.Eq.{bytes_eq-Decides}
use Rattle.std.proofs.lemmas.List.{length-map, map-append}
use Rattle.std.specs.declared.vec.Vec.{Vec}
use Rattle.fedi_register.specs.Changes.{place_where}
use Rattle.fedi_register.specs.declared.seeds.Seed.{Seed}
use Rattle.fedi_register.specs.Marks.{Mark, every, marks_from}
use Rattle.fedi_register.specs.Seeds.{mark_of}
use Rattle.fedi_register.proofs.Chains.{got_at, longer}
use Rattle.fedi_register.proofs.Found.{IsMarkedSo}
use Rattle.fedi_register.proofs.Indexed.{marks_pushed}
use Rattle.fedi_register.proofs.Once.{lt_step}
use Rattle.fedi_index.specs.declared.collection.Collection.{Collection}
use Rattle.fedi_index.specs.declared.lists.Row.{Row}
use Rattle.fedi_index.specs.Candidates.{is_same}
use Rattle.fedi_index.proofs.SameKind.{kind_itself, same_kind}
use Rattle.fedi_index.specs.Lists.{AreRoomier, HasOneMore, IsRoomier, Listing, ends_in, first_from, grown, grown_at, is_list, is_row, is_same_list, list_found, list_mark, listing_in, listings, new_list, places_found, places_of, room_found, room_of, row_mark}

-- ---- rows

pub row_marked : (seed : Seed) (kind : Collection) (owner : List ℕ) → IsMarkedSo every (row_mark seed) (mark_of seed owner) (is_row kind owner)
unfolding is_row is_list row_mark
row_marked seed kind owner r is = (refl, ap (mark_of seed) ((bytes_eq-Decides r.owner owner).0 (and_parts (is_same r.collection kind) (bytes_eq r.owner owner) is).1))

pub rows_marked : (seed : Seed) (n : ℕ) (rows : List Row) → marks_from every (row_mark seed) n rows ≡ marks_from every (list_mark seed) n (listings rows)
unfolding row_mark list_mark
rows_marked seed n [] = refl
rows_marked seed n (r ∷ rows) = ap (λ (ms : List Mark). record { mark = mark_of seed r.owner; place = n } ∷ ms) (rows_marked seed (suc n) rows)

pub rows_found : (kind : Collection) (owner : List ℕ) (rows : List Row) → find (is_list kind owner) (listings rows) ≡ option_map listing_in (find (is_row kind owner) rows)
unfolding is_row
rows_found kind owner [] = refl
rows_found kind owner (r ∷ rows) =
    elim (is_list kind owner (listing_in r)) as (λ b. (if b then Some (listing_in r) else find (is_list kind owner) (listings rows)) ≡ option_map listing_in (if b then Some r else find (is_row kind owner) rows)) [
      | true ↦ refl
      | false ↦ rows_found kind owner rows
    ]

pub places_there : (kind : Collection) (owner : List ℕ) (rows : List Row) (got : Option Row) → got ≡ find (is_row kind owner) rows
    → places_found (option_map listing_in got) ≡ places_of kind owner (listings rows)
unfolding places_of
places_there kind owner rows got is = ap (λ (o : Option Row). places_found (option_map listing_in o)) is ∙ ap places_found (sym (rows_found kind owner rows))

first-placed : (kind : Collection) (owner : List ℕ) (n : ℕ) (rows : List Row) → first_from (is_list kind owner) n (listings rows)
    ≡ (if ltb (position_or_len (is_row kind owner) rows) (length rows) then Some (position_or_len (is_row kind owner) rows + n) else None)
unfolding is_row
first-placed kind owner n [] = refl
first-placed kind owner n (r ∷ rows) =
    let at : List Row → ℕ = λ (rs : List Row). position_or_len (λ x. is_list kind owner (listing_in x)) rs in
    elim (is_list kind owner (listing_in r)) as (λ b. is_list kind owner (listing_in r) ≡ b → (if b then Some n else first_from (is_list kind owner) (suc n) (listings rows))
    ≡ (if ltb (at (r ∷ rows)) (length (r ∷ rows)) then Some (at (r ∷ rows) + n) else None)) [
      | true ↦ λ is. let none : 0 + n ≡ n = omega arith in rw (is, lt-ltb 0 (suc (length rows)) (omega arith), none) refl
      | false ↦ λ isnt.
          let more : 1 + at rows + n ≡ at rows + suc n = omega arith in
          rw (isnt, lt_step (at rows) (length rows), more) (first-placed kind owner (suc n) rows)
    ] refl

pub row_placed : (kind : Collection) (owner : List ℕ) (rows : List Row) → place_where (is_row kind owner) rows ≡ first_from (is_list kind owner) 0 (listings rows)
row_placed kind owner rows =
    let at : ℕ = position_or_len (is_row kind owner) rows in
    let none : at + 0 ≡ at = omega arith in
    sym (first-placed kind owner 0 rows ∙ ap (λ (k : ℕ). if ltb at (length rows) then Some k else None) none)

-- ---- the list at the first index

pub list_at : (p : Listing → Bool) (ls : List Listing) → find p ls ≡ list_found ls (first_from p 0 ls)
list_at p ls = from 0 [] ls refl
  where
    from : (n : ℕ) (before ls : List Listing) → length before ≡ n → find p ls ≡ list_found (before ++ ls) (first_from p n ls)
    from n before [] is = refl
    from n before (l ∷ ls) is =
        elim (p l) as (λ b. (if b then Some l else find p ls) ≡ list_found (before ++ l ∷ ls) (if b then Some n else first_from p (suc n) ls)) [
          | true ↦ sym (ap (λ (k : ℕ). slice_get (before ++ l ∷ ls) k) (sym is) ∙ got_at before l ls)
          | false ↦ from (suc n) (before ++ l ∷ []) ls (longer before l ∙ ap suc is) ∙ ap (λ (all : List Listing). list_found all (first_from p (suc n) ls)) (append_assoc before (l ∷ []) ls)
        ]

pub some_found : (p : Listing → Bool) (n : ℕ) (ls : List Listing) → is_some (find p ls) ≡ is_some (first_from p n ls)
some_found p n [] = refl
some_found p n (l ∷ ls) =
    elim (p l) as (λ b. is_some (if b then Some l else find p ls) ≡ is_some (if b then Some n else first_from p (suc n) ls)) [ true ↦ refl | false ↦ some_found p (suc n) ls ]

pub first-within : (p : Listing → Bool) (n i : ℕ) (ls : List Listing) → first_from p n ls ≡ Some i → (n ≤ i) × (i < n + length ls)
first-within p n i [] is = absurd cc
first-within p n i (l ∷ ls) is =
    elim (p l) as (λ b. (if b then Some n else first_from p (suc n) ls) ≡ Some i → (n ≤ i) × (i < n + length (l ∷ ls))) [
      | true ↦ λ e. let same : n ≡ i = cc in (omega (arith, same), omega (arith, same))
      | false ↦ λ e. let rest = first-within p (suc n) i ls e in (omega (arith, rest.0), omega (arith, rest.1))
    ] is

-- ---- one more position

same_key : (kind : Collection) (owner : List ℕ) (l : Listing) → is_list kind owner l ≡ true → (k : Collection) (o : List ℕ) → is_list k o l ≡ is_same_list k o kind owner
unfolding is_list
same_key kind owner l is k o =
    let parts = and_parts (is_same l.collection kind) (bytes_eq l.owner owner) is in
    rw (same_kind l.collection kind parts.0, (bytes_eq-Decides l.owner owner).0 parts.1) refl

other_key : (kind : Collection) (owner : List ℕ) (l : Listing) → is_list kind owner l ≡ false → (k : Collection) (o : List ℕ) → is_list k o l ≡ true → is_same_list k o kind owner ≡ false
unfolding is_list
other_key kind owner l is k o here =
    let parts = and_parts (is_same l.collection k) (bytes_eq l.owner o) here in
    elim (is_same_list k o kind owner) as (λ b. is_same_list k o kind owner ≡ b → b ≡ false) [
      | false ↦ λ _. refl
      | true ↦ λ e. absurd (
          let same = and_parts (is_same kind k) (bytes_eq owner o) e in
          let it : is_list kind owner l ≡ true = rw (same_kind kind k same.0, (bytes_eq-Decides owner o).0 same.1) here in
          cc)
    ] refl

grown_key : (put : List ℕ → List ℕ) (k : Collection) (o : List ℕ) (l : Listing) → is_list k o (grown put l) ≡ is_list k o l
unfolding is_list
grown_key put k o l = refl

chosen : (same : Bool) (put : List ℕ → List ℕ) (l : Listing) (rest : Option Listing)
    → (if same then Some (grown put l) else rest) ≡ (if same then option_map (grown put) (if same then Some l else rest) else (if same then Some l else rest))
chosen true put l rest = refl
chosen false put l rest = refl

pub find_grown : (kind : Collection) (owner : List ℕ) (put : List ℕ → List ℕ) (n at : ℕ) (ls : List Listing) → first_from (is_list kind owner) n ls ≡ Some (n + at) → (k : Collection) (o : List ℕ)
    → find (is_list k o) (grown_at at put ls) ≡ (if is_same_list k o kind owner then option_map (grown put) (find (is_list k o) ls) else find (is_list k o) ls)
find_grown kind owner put n at [] is k o = absurd cc
find_grown kind owner put n zero (l ∷ ls) is k o =
    elim (is_list kind owner l) as (λ b. is_list kind owner l ≡ b → (if b then Some n else first_from (is_list kind owner) (suc n) ls) ≡ Some (n + 0)
    → find (is_list k o) (grown put l ∷ ls) ≡ (if is_same_list k o kind owner then option_map (grown put) (find (is_list k o) (l ∷ ls)) else find (is_list k o) (l ∷ ls))) [
      | true ↦ λ e _. rw (grown_key put k o l, same_key kind owner l e k o) (chosen (is_same_list k o kind owner) put l (find (is_list k o) ls))
      | false ↦ λ e later. absurd (let h = first-within (is_list kind owner) (suc n) (n + 0) ls later in omega (arith, h.0))
    ] refl is
find_grown kind owner put n (suc at) (l ∷ ls) is k o =
    elim (is_list kind owner l) as (λ b. is_list kind owner l ≡ b → (if b then Some n else first_from (is_list kind owner) (suc n) ls) ≡ Some (n + suc at)
    → find (is_list k o) (l ∷ grown_at at put ls) ≡ (if is_same_list k o kind owner then option_map (grown put) (find (is_list k o) (l ∷ ls)) else find (is_list k o) (l ∷ ls))) [
      | true ↦ λ e now. absurd (let same : n ≡ n + suc at = cc in omega (arith, same))
      | false ↦ λ e later.
          let further : n + suc at ≡ suc n + at = omega arith in
          let rest = find_grown kind owner put (suc n) at ls (rw further at later) k o in
          elim (is_list k o l) as (λ b. is_list k o l ≡ b → (if b then Some l else find (is_list k o) (grown_at at put ls))
          ≡ (if is_same_list k o kind owner then option_map (grown put) (if b then Some l else find (is_list k o) ls) else (if b then Some l else find (is_list k o) ls))) [
            | true ↦ λ here. rw (other_key kind owner l e k o here) refl
            | false ↦ λ _. rest
          ] refl
    ] refl is

there : (p : Listing → Bool) (ls : List Listing) (i : ℕ) → first_from p 0 ls ≡ Some i → is_some (find p ls) ≡ true
there p ls i is = some_found p 0 ls ∙ rw is refl

one_more : (same : Bool) (put : List ℕ → List ℕ) (o : Option Listing) → (same ≡ true → is_some o ≡ true)
    → places_found (if same then option_map (grown put) o else o) ≡ (if same then put (places_found o) else places_found o)
one_more true put None h = absurd (let no = h refl in cc)
one_more true put (Some l) h = refl
one_more false put None h = refl
one_more false put (Some l) h = refl

one_less : (same : Bool) (put : List ℕ → List ℕ) (o : Option Listing) → room_found o ≤ room_found (if same then option_map (grown put) o else o) + (if same then 1 else 0)
one_less true put None = omega arith
one_less true put (Some l) = omega arith
one_less false put None = omega arith
one_less false put (Some l) = omega arith

same_there : (kind : Collection) (owner : List ℕ) (ls : List Listing) (at : ℕ) (k : Collection) (o : List ℕ) → first_from (is_list kind owner) 0 ls ≡ Some at → is_same_list k o kind owner ≡ true → is_some (find (is_list k o) ls) ≡ true
same_there kind owner ls at k o is same =
    let parts = and_parts (is_same kind k) (bytes_eq owner o) same in
    rw (← same_kind kind k parts.0, ← (bytes_eq-Decides owner o).0 parts.1) (there (is_list kind owner) ls at is)

pub one_added : (kind : Collection) (owner : List ℕ) (put : List ℕ → List ℕ) (at : ℕ) (ls : List Listing) → first_from (is_list kind owner) 0 ls ≡ Some at → HasOneMore kind owner put ls (grown_at at put ls)
unfolding places_of room_of
one_added kind owner put at ls is =
    let none : 0 + at ≡ at = omega arith in
    let after : (k : Collection) (o : List ℕ) → find (is_list k o) (grown_at at put ls) ≡ (if is_same_list k o kind owner then option_map (grown put) (find (is_list k o) ls) else find (is_list k o) ls) =
    find_grown kind owner put 0 at ls (rw none is) in record {
      places = λ k o. ap places_found (after k o) ∙ one_more (is_same_list k o kind owner) put (find (is_list k o) ls) (same_there kind owner ls at k o is);
      room = λ k o. rw (after k o) (one_less (is_same_list k o kind owner) put (find (is_list k o) ls));
    }

pub grown_marks : (seed : Seed) (at : ℕ) (put : List ℕ → List ℕ) (n : ℕ) (ls : List Listing) → marks_from every (list_mark seed) n (grown_at at put ls) ≡ marks_from every (list_mark seed) n ls
unfolding list_mark
grown_marks seed at put n [] = refl
grown_marks seed zero put n (l ∷ ls) = refl
grown_marks seed (suc at) put n (l ∷ ls) = ap (λ (ms : List Mark). record { mark = mark_of seed l.owner; place = n } ∷ ms) (grown_marks seed at put (suc n) ls)

-- ---- more room

list_alike : (k : Collection) (o : List ℕ) (x y : Listing) → x.collection ≡ y.collection → x.owner ≡ y.owner → is_list k o y ≡ is_list k o x
unfolding is_list
list_alike k o x y p q = rw (p, q) refl

pub roomier_found : (k : Collection) (o : List ℕ) (xs ys : List Listing) → AreRoomier xs ys
    → (places_found (find (is_list k o) ys) ≡ places_found (find (is_list k o) xs)) × (room_found (find (is_list k o) xs) ≤ room_found (find (is_list k o) ys))
roomier_found k o [] [] h = (refl, omega arith)
roomier_found k o [] (y ∷ ys) h = absurd h
roomier_found k o (x ∷ xs) [] h = absurd h
roomier_found k o (x ∷ xs) (y ∷ ys) h =
    rw (list_alike k o x y h.0 h.1) (elim (is_list k o x) as (λ b.
    (places_found (if b then Some y else find (is_list k o) ys) ≡ places_found (if b then Some x else find (is_list k o) xs))
    × (room_found (if b then Some x else find (is_list k o) xs) ≤ room_found (if b then Some y else find (is_list k o) ys))) [
      | true ↦ (sym h.2, h.3)
      | false ↦ roomier_found k o xs ys h.4
    ])

pub roomier : (xs ys : List Listing) → AreRoomier xs ys → IsRoomier xs ys
unfolding places_of room_of
roomier xs ys h = record { same = λ k o. (roomier_found k o xs ys h).0; room = λ k o. (roomier_found k o xs ys h).1 }

pub roomier_marks : (seed : Seed) (n : ℕ) (xs ys : List Listing) → AreRoomier xs ys → marks_from every (list_mark seed) n ys ≡ marks_from every (list_mark seed) n xs
unfolding list_mark
roomier_marks seed n [] [] h = refl
roomier_marks seed n [] (y ∷ ys) h = absurd h
roomier_marks seed n (x ∷ xs) [] h = absurd h
roomier_marks seed n (x ∷ xs) (y ∷ ys) h = rw (h.1, roomier_marks seed (suc n) xs ys h.4) refl

-- what is found in the roomier lists
pub roomier_first : (k : Collection) (o : List ℕ) (n : ℕ) (xs ys : List Listing) → AreRoomier xs ys → first_from (is_list k o) n ys ≡ first_from (is_list k o) n xs
roomier_first k o n [] [] h = refl
roomier_first k o n [] (y ∷ ys) h = absurd h
roomier_first k o n (x ∷ xs) [] h = absurd h
roomier_first k o n (x ∷ xs) (y ∷ ys) h = rw (list_alike k o x y h.0 h.1, roomier_first k o (suc n) xs ys h.4) refl

pub all_roomier : (xs : List Listing) → AreRoomier xs xs
all_roomier [] = tt
all_roomier (x ∷ xs) = (refl, refl, refl, omega arith, all_roomier xs)

-- ---- a new list

new_found : (k : Collection) (o : List ℕ) (ls : List Listing) (kind : Collection) (owner : List ℕ)
    → (places_found (find (is_list k o) (ls ++ new_list kind owner ∷ [])) ≡ places_found (find (is_list k o) ls)) × (room_found (find (is_list k o) ls) ≤ room_found (find (is_list k o) (ls ++ new_list kind owner ∷ [])))
new_found k o [] kind owner =
    elim (is_list k o (new_list kind owner)) as (λ b. (places_found (if b then Some (new_list kind owner) else None) ≡ []) × (0 ≤ room_found (if b then Some (new_list kind owner) else None))) [
      | true ↦ (refl, omega arith)
      | false ↦ (refl, omega arith)
    ]
new_found k o (l ∷ ls) kind owner =
    elim (is_list k o l) as (λ b. (places_found (if b then Some l else find (is_list k o) (ls ++ new_list kind owner ∷ [])) ≡ places_found (if b then Some l else find (is_list k o) ls))
    × (room_found (if b then Some l else find (is_list k o) ls) ≤ room_found (if b then Some l else find (is_list k o) (ls ++ new_list kind owner ∷ [])))) [
      | true ↦ (refl, omega arith)
      | false ↦ new_found k o ls kind owner
    ]

pub new_roomier : (ls : List Listing) (kind : Collection) (owner : List ℕ) → IsRoomier ls (ls ++ new_list kind owner ∷ [])
unfolding places_of room_of
new_roomier ls kind owner = record { same = λ k o. (new_found k o ls kind owner).0; room = λ k o. (new_found k o ls kind owner).1 }

-- the new list is the first one found if there was none
pub new_first : (kind : Collection) (owner : List ℕ) (n : ℕ) (ls : List Listing) → first_from (is_list kind owner) n ls ≡ None
    → first_from (is_list kind owner) n (ls ++ new_list kind owner ∷ []) ≡ Some (n + length ls)
unfolding is_list
new_first kind owner n [] none = let k : n + 0 ≡ n = omega arith in rw (kind_itself kind, (bytes_eq-Decides owner owner).1 refl, k) refl
new_first kind owner n (l ∷ ls) none =
    let k : n + length (l ∷ ls) ≡ suc n + length ls = omega arith in
    elim (is_list kind owner l) as (λ b. (if b then Some n else first_from (is_list kind owner) (suc n) ls) ≡ None
    → (if b then Some n else first_from (is_list kind owner) (suc n) (ls ++ new_list kind owner ∷ [])) ≡ Some (n + length (l ∷ ls))) [
      | true ↦ λ e. absurd cc
      | false ↦ λ e. rw k (new_first kind owner (suc n) ls e)
    ] none

-- if there is room, there is a list
pub none_room : (kind : Collection) (owner : List ℕ) (ls : List Listing) → 1 ≤ room_of kind owner ls → first_from (is_list kind owner) 0 ls ≡ None → ⊥
unfolding room_of
none_room kind owner ls room none =
    let is : find (is_list kind owner) ls ≡ None = list_at (is_list kind owner) ls ∙ ap (list_found ls) none in
    let no : 1 ≤ 0 = rw is at room in omega (arith, no)

pub room_there : (kind : Collection) (owner : List ℕ) (ls : List Listing) (at : ℕ) → 1 ≤ room_of kind owner ls → first_from (is_list kind owner) 0 ls ≡ Some at → 1 ≤ room_found (slice_get ls at)
unfolding room_of
room_there kind owner ls at room is =
    let same : find (is_list kind owner) ls ≡ slice_get ls at = list_at (is_list kind owner) ls ∙ ap (list_found ls) is in
    rw same at room

pub index_there : (kind : Collection) (owner : List ℕ) (ls : List Listing) (at index : ℕ) → index ≤ length (places_of kind owner ls) → first_from (is_list kind owner) 0 ls ≡ Some at
    → index ≤ length (places_found (slice_get ls at))
unfolding places_of
index_there kind owner ls at index within is =
    let same : find (is_list kind owner) ls ≡ slice_get ls at = list_at (is_list kind owner) ls ∙ ap (list_found ls) is in
    rw same at within

pub room_given : (kind : Collection) (owner : List ℕ) (ls : List Listing) (at more : ℕ) → first_from (is_list kind owner) 0 ls ≡ Some at → more ≤ room_found (slice_get ls at) → more ≤ room_of kind owner ls
unfolding room_of
room_given kind owner ls at more is room =
    let same : find (is_list kind owner) ls ≡ slice_get ls at = list_at (is_list kind owner) ls ∙ ap (list_found ls) is in
    rw same room

pub roomier_itself : (ls : List Listing) → IsRoomier ls ls
roomier_itself ls = record { same = λ k o. refl; room = λ k o. omega arith }

pub roomier_then : (ls ks js : List Listing) → IsRoomier ls ks → IsRoomier ks js → IsRoomier ls js
roomier_then ls ks js p q = record { same = λ k o. q.same k o ∙ p.same k o; room = λ k o. omega (arith, p.room k o, q.room k o) }

-- ---- one row

pub listing_grown : (kind : Collection) (put : List ℕ → List ℕ) (owner : List ℕ) (v w : Vec ℕ Global) → w.items ≡ put v.items → vec_len w ≡ vec_len v + 1 → vec_capacity w ≡ vec_capacity v
    → listing_in (record { collection = kind; owner = owner; places = w }) ≡ grown put (listing_in (record { collection = kind; owner = owner; places = v }))
listing_grown kind put owner v w items more wide =
    let room : vec_capacity w - vec_len w ≡ vec_capacity v - vec_len v - 1 = omega (arith, more, wide) in
    ap (λ (xs : List ℕ). record { collection = kind; owner = owner; places = xs; room = vec_capacity w - vec_len w }) items
    ∙ ap (λ (n : ℕ). record { collection = kind; owner = owner; places = put v.items; room = n }) room

pub listing_there : (rows : List Row) (at : ℕ) (r : Row) → slice_get rows at ≡ Some r → slice_get (listings rows) at ≡ Some (listing_in r)
listing_there [] at r got = absurd cc
listing_there (x ∷ rows) zero r got = let same : x ≡ r = cc in rw same refl
listing_there (x ∷ rows) (suc at) r got = listing_there rows at r got

-- whether the list of the row at this index ends in the position
pub ends_there : (rows : List Row) (at : ℕ) (r : Row) (place : ℕ) (places : List ℕ) (ends : Bool) → slice_get rows at ≡ Some r → places ≡ r.places.items → ends ≡ ends_in place places
    → ends_in place (places_found (slice_get (listings rows) at)) ≡ ends
ends_there rows at r place places ends got are is =
    ap (λ (l : Option Listing). ends_in place (places_found l)) (listing_there rows at r got) ∙ ap (ends_in place) (sym are) ∙ sym is

pub rows_grown : (rows : List Row) (at : ℕ) (put : List ℕ → List ℕ) (r r' : Row) → slice_get rows at ≡ Some r → listing_in r' ≡ grown put (listing_in r)
    → listings (set rows at r') ≡ grown_at at put (listings rows)
rows_grown [] at put r r' got is = absurd cc
rows_grown (x ∷ rows) zero put r r' got is = let same : x ≡ r = cc in ap (λ (l : Listing). l ∷ listings rows) (is ∙ rw same refl)
rows_grown (x ∷ rows) (suc at) put r r' got is = ap (λ (ls : List Listing). listing_in x ∷ ls) (rows_grown rows at put r r' got is)

pub rows_roomier : (rows : List Row) (at : ℕ) (r r' : Row) → slice_get rows at ≡ Some r → r.collection ≡ r'.collection → r.owner ≡ r'.owner → r.places.items ≡ r'.places.items
    → vec_capacity r.places - vec_len r.places ≤ vec_capacity r'.places - vec_len r'.places → AreRoomier (listings rows) (listings (set rows at r'))
rows_roomier [] at r r' got k o p m = absurd cc
rows_roomier (x ∷ rows) zero r r' got k o p m = let same : x ≡ r = cc in (rw same k, rw same o, rw same p, rw same m, all_roomier (listings rows))
rows_roomier (x ∷ rows) (suc at) r r' got k o p m = (refl, refl, refl, omega arith, rows_roomier rows at r r' got k o p m)

pub row_set : (rows : List Row) (at : ℕ) (r' : Row) → at < length rows → slice_get (listings (set rows at r')) at ≡ Some (listing_in r')
row_set [] at r' there = absurd (omega arith)
row_set (x ∷ rows) zero r' there = refl
row_set (x ∷ rows) (suc at) r' there = row_set rows at r' (omega arith)

pub row_added : (seed : Seed) (rows : List Row) (r : Row) (old new : List Mark) (own place : ℕ) → place ≡ length rows → own ≡ mark_of seed r.owner → old ≡ marks_from every (list_mark seed) 0 (listings rows)
    → new ≡ old ++ record { mark = own; place = place } ∷ [] → new ≡ marks_from every (list_mark seed) 0 (listings (rows ++ r ∷ []))
unfolding list_mark
row_added seed rows r old new own place at is before after =
    marks_pushed every (list_mark seed) (listings rows) (listing_in r) old new place own true (at ∙ sym (length-map rows listing_in)) refl is before after
    ∙ ap (λ (ls : List Listing). marks_from every (list_mark seed) 0 ls) (sym (map-append listing_in rows (r ∷ [])))
