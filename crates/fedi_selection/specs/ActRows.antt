-- One row for each activity, and which rows are picked by author and type.
use Rattle.std.specs.Prelude.{ℕ, ◌<◌, ◌^◌, ◌&&◌, Bool, List, [], ◌∷◌, filter, bytes_eq, ⊤}
use Rattle.std.specs.List.{AllByRecursion}

-- what is reports of an activity: its position in the order of acceptance, its id, the id of its
-- author, the names of its type and of its state, and the second of its acceptance
pub record ActFields : Type 0 where
  pub place : ℕ
  pub id : List ℕ
  pub actor : List ℕ
  pub kind : List ℕ
  pub state : List ℕ
  pub moment : ℕ

-- a place that a keeper of records may have, and a second before the year 10,000
pub record HasBounds (place moment : ℕ) : Type 0 where
  pub place_is : place < 2 ^ 62
  pub moment_is : moment < 253_402_300_800

-- the activity is by this author and of this type
abbrev pub is_by : List ℕ → List ℕ → ActFields → Bool
is_by actor kind row = bytes_eq row.actor actor && bytes_eq row.kind kind

-- those by this author and of this type, in order
abbrev pub picked : List ℕ → List ℕ → List ActFields → List ActFields
picked actor kind rows = filter (is_by actor kind) rows

-- the rows are in the order of their places, and no place comes twice
abbrev pub AreInOrder : List ActFields → Type 0
AreInOrder [] = ⊤
AreInOrder (row ∷ more) =
    AllByRecursion (λ (later : ActFields). row.place < later.place) more × AreInOrder more
