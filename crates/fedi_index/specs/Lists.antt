-- Lists of positions, one for each collection of an owner.
use Rattle.std.specs.Prelude.{◌≡◌, ℕ, zero, suc, ◌+◌, ◌-◌, ◌≤◌, Bool, true, false, not, ◌&&◌}
use Rattle.std.specs.Prelude.{nat_eq, List, [], ◌∷◌, ◌++◌, map, Option, None, Some, slice_get}
use Rattle.std.specs.Prelude.{vec_len, vec_capacity, if◌then◌else◌}
use Rattle.std.specs.List.{find, insert}
use Rattle.std.specs.Str.{bytes_eq}
use Rattle.fedi_index.specs.declared.collection.Collection.{Collection}
use Rattle.fedi_index.specs.declared.lists.Lists.TheInside.{Inside}
use Rattle.fedi_index.specs.declared.lists.Row.{Row}
use Rattle.fedi_index.specs.Candidates.{is_same}
use Rattle.fedi_register.specs.declared.seeds.Seed.{Seed}
use Rattle.fedi_register.specs.Marks.{every, marks_from}
use Rattle.fedi_register.specs.Seeds.{mark_of}

-- the positions in a collection of an owner, and the number of further ones that there is room for
pub record Listing : Type 0 where
  pub collection : Collection
  pub owner : List ℕ
  pub places : List ℕ
  pub room : ℕ

-- it is the list of this collection of this owner
unfoldable pub is_list : Collection → List ℕ → Listing → Bool
is_list kind owner l = is_same l.collection kind && bytes_eq l.owner owner

-- the positions in the list that was found
abbrev pub places_found : Option Listing → List ℕ
places_found None = []
places_found (Some l) = l.places

-- the room in the list that was found
abbrev pub room_found : Option Listing → ℕ
room_found None = 0
room_found (Some l) = l.room

-- the positions in this collection of this owner
unfoldable pub places_of : Collection → List ℕ → List Listing → List ℕ
places_of kind owner lists = places_found (find (is_list kind owner) lists)

-- the room in the list of this collection of this owner
unfoldable pub room_of : Collection → List ℕ → List Listing → ℕ
room_of kind owner lists = room_found (find (is_list kind owner) lists)

-- the two collections are the same, and the two owners are
abbrev pub is_same_list : Collection → List ℕ → Collection → List ℕ → Bool
is_same_list k o kind owner = is_same kind k && bytes_eq owner o

-- ---- what a call does to the lists

-- every list has the same positions and no less room
pub record IsRoomier (old new : List Listing) : Type 0 where
  pub same : (k : Collection) (o : List ℕ) → places_of k o new ≡ places_of k o old
  pub room : (k : Collection) (o : List ℕ) → room_of k o old ≤ room_of k o new

-- the positions with one more at the end
abbrev pub at_end : ℕ → List ℕ → List ℕ
at_end place places = places ++ place ∷ []

-- the positions with one more before the one at this index
abbrev pub at_index : ℕ → ℕ → List ℕ → List ℕ
at_index index place places = insert places index place

-- this one list has one more position, inserted by `put`, and room for one less
pub record HasOneMore (kind : Collection) (owner : List ℕ) (put : List ℕ → List ℕ)
    (old new : List Listing) : Type 0 where
  pub places : (k : Collection) (o : List ℕ) → places_of k o new
      ≡ (if is_same_list k o kind owner then put (places_of k o old) else places_of k o old)
  pub room : (k : Collection) (o : List ℕ)
      → room_of k o old ≤ room_of k o new + (if is_same_list k o kind owner then 1 else 0)

-- ---- one more position, at most once

-- the list ends in this position
abbrev pub ends_in : ℕ → List ℕ → Bool
ends_in place [] = false
ends_in place (p ∷ []) = nat_eq p place
ends_in place (p ∷ q ∷ ps) = ends_in place (q ∷ ps)

-- the position has to be added
abbrev pub is_lacking : ℕ → List ℕ → Bool → Bool
is_lacking place places listed = listed && not (ends_in place places)

-- this position was added to these lists unless they had it, and the other lists are unchanged
pub record AddsOnce (listed : Collection → List ℕ → Bool) (place : ℕ)
    (old new : List Listing) : Type 0 where
  pub places : (k : Collection) (o : List ℕ) → places_of k o new ≡ places_of k o old
      ++ (if is_lacking place (places_of k o old) (listed k o) then place ∷ [] else [])
  pub room : (k : Collection) (o : List ℕ) → room_of k o old
      ≤ room_of k o new + (if is_lacking place (places_of k o old) (listed k o) then 1 else 0)

-- there is room for this position in these lists unless they already have it
pub record CanAdd (listed : Collection → List ℕ → Bool) (place : ℕ)
    (lists : List Listing) : Type 0 where
  pub room : (k : Collection) (o : List ℕ)
      → is_lacking place (places_of k o lists) (listed k o) ≡ true → 1 ≤ room_of k o lists

-- ---- where they are

-- the number by which a list is looked up
unfoldable pub list_mark : Seed → Listing → ℕ
list_mark seed l = mark_of seed l.owner

-- the index of the first list that passes, if the first list has this index
abbrev pub first_from : (Listing → Bool) → ℕ → List Listing → Option ℕ
first_from p n [] = None
first_from p n (l ∷ ls) = if p l then Some n else first_from p (suc n) ls

-- the list at the index that was found
abbrev pub list_found : List Listing → Option ℕ → Option Listing
list_found lists None = None
list_found lists (Some place) = slice_get lists place

-- the list with one more position, inserted by `put`
abbrev pub grown : (List ℕ → List ℕ) → Listing → Listing
grown put l = record l { places = put l.places; room = l.room - 1 }

-- the lists after the one at this index got one more position
abbrev pub grown_at : ℕ → (List ℕ → List ℕ) → List Listing → List Listing
grown_at at put [] = []
grown_at zero put (l ∷ ls) = grown put l ∷ ls
grown_at (suc n) put (l ∷ ls) = l ∷ grown_at n put ls

-- the lists after the one at this index got one more position at its end, unless it ended in it
abbrev pub pushed_at : ℕ → ℕ → List Listing → List Listing
pushed_at at place ls =
    if ends_in place (places_found (slice_get ls at)) then ls else grown_at at (at_end place) ls

-- each list is the same and has no less room
abbrev pub AreRoomier : List Listing → List Listing → Type 0
AreRoomier [] [] = Unit {0}
AreRoomier [] (y ∷ ys) = ⊥
AreRoomier (x ∷ xs) [] = ⊥
AreRoomier (x ∷ xs) (y ∷ ys) =
    (x.collection ≡ y.collection) × (x.owner ≡ y.owner) × (x.places ≡ y.places) × (x.room ≤ y.room)
    × AreRoomier xs ys

-- a list without positions and without room
abbrev pub new_list : Collection → List ℕ → Listing
new_list kind owner = record { collection = kind; owner = owner; places = []; room = 0 }

-- ---- the rows

-- the list of a row
abbrev pub listing_in : Row → Listing
listing_in r = record {
  collection = r.collection;
  owner = r.owner;
  places = r.places.items;
  room = vec_capacity r.places - vec_len r.places;
}

-- the lists of the rows
abbrev pub listings : List Row → List Listing
listings rows = map listing_in rows

-- the list of the row is this one
unfoldable pub is_row : Collection → List ℕ → Row → Bool
is_row kind owner r = is_list kind owner (listing_in r)

-- the number by which a row is looked up
unfoldable pub row_mark : Seed → Row → ℕ
row_mark seed r = mark_of seed r.owner

-- the lists, as seen by a look-up
abbrev pub lists_in : Inside → List Listing
lists_in l = listings l.rows.items

-- the lists are indexed by owner
abbrev pub AreIndexed : Inside → Type 0
AreIndexed l = l.index.marks ≡ marks_from every (list_mark l.seed) 0 (listings l.rows.items)
