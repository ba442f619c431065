-- The table of records, its rows, and what a statement on it does to them (SQLite, "SQL As
-- Understood By SQLite": CREATE TABLE, INSERT, SELECT; "STRICT Tables"; "Rowid Tables").
use Rattle.std.specs.Prelude.{◌≡◌, ◌⊎◌, ◌<◌, ◌+◌, ℕ, pos, true, false, List, [], ◌∷◌, ◌++◌}
use Rattle.std.specs.Prelude.{length, Some, codes, slice_get, option_map, IsTrue, Result}
use Rattle.std.specs.Prelude.{MatchResult, IfOk, Vec, All}
use Rattle.sqlite.specs.Collation.TheVariants.{Binary}
use Rattle.sqlite.specs.declared.types.Value.TheVariants.{Null, Int, Blob as Bytes}
use Rattle.sqlite.specs.Effect.{Database}
use Rattle.sqlite.specs.Order.{Row}
use Rattle.sqlite.specs.Table.{Table}
use Rattle.sqlite.specs.Schema.{Schema}
use Rattle.sqlite.specs.Kind.TheVariants.{Integer, Blob}
use Rattle.sqlite.specs.State.{HasCleanDisk, State}
use Rattle.sqlite_disk.specs.Disk.{MoreFaults}

-- the table `kept`: its place is the rowid of a row, and its payload is never null
abbrev pub kept_table : Table
kept_table = record {
  name = codes "kept";
  tree = 0;
  columns = (record {
    name = codes "place";
    kind = Integer;
    is_strict = true;
    not_null = false;
    default = Null;
    collation = Binary;
  })
      ∷ (record {
        name = codes "payload";
        kind = Blob;
        is_strict = true;
        not_null = true;
        default = Null;
        collation = Binary;
      }) ∷ [];
  key = Some 0;
  primary = 0 ∷ [];
  uniques = [];
  orders = [];
  checks = [];
  references = [];
  computed = [];
  stamps = record { places = []; terms = []; formats = [] };
  is_counted = false;
}

-- a database with this table and nothing else
abbrev pub kept_schema : Schema
kept_schema = record { tables = kept_table ∷ []; indexes = []; views = [] }

-- a database with nothing
abbrev pub no_schema : Schema
no_schema = record { tables = []; indexes = []; views = [] }

-- a record at its place, as the table has it: the rowid, and then the columns, where the one that
-- is the rowid is null
abbrev pub row_of : ℕ → List ℕ → Row
row_of place payload = Int (pos place) ∷ Null ∷ Bytes payload ∷ []

-- these records at the places from this one on
abbrev pub rows_from : ℕ → List (List ℕ) → List Row
rows_from place [] = []
rows_from place (payload ∷ more) = row_of place payload ∷ rows_from (place + 1) more

-- the connection is open, outside of a transaction, over a database of this schema
pub record IsAtRest (schema : Schema) (s : State) : Type 0 where
  pub is_open : IsTrue s.is_open
  pub autocommit : s.in_transaction ≡ false
  pub settled : s.committed ≡ s.now
  pub schema_is : s.now.schema ≡ schema

-- the database has these records and nothing else, and all is committed
pub record Keeps (records : List (List ℕ)) (s : State) : Type 0 where
  pub rest : IsAtRest kept_schema s
  pub rows : s.now.trees 0 ≡ rows_from 0 records

-- this database has these records and nothing else
pub record HasRecords (records : List (List ℕ)) (db : Database) : Type 0 where
  pub schema_is : db.schema ≡ kept_schema
  pub rows : db.trees 0 ≡ rows_from 0 records

-- in a transaction that sees these records; those that are kept are still the ones before it
pub record IsAdding (kept records : List (List ℕ)) (s : State) : Type 0 where
  pub is_open : IsTrue s.is_open
  pub within : s.in_transaction ≡ true
  pub before : HasRecords kept s.committed
  pub now : HasRecords records s.now

-- nothing but the database itself has written, and the disk has not failed in between
pub record IsCalm (old new : State) : Type 0 where
  pub clean : HasCleanDisk new
  pub calm : MoreFaults old.faults new.faults → ⊥

-- ---- what the statements do

-- an append of this payload at the first free place; a statement that is refused adds nothing
abbrev pub Appends : {T E : Type 0} → State → State → ℕ → List ℕ → Result T E → Type 0
Appends old new place payload r =
    (records : List (List ℕ)) → Keeps records old → place ≡ length records
    → MatchResult r (λ _. Keeps (records ++ payload ∷ []) new) (λ _. Keeps records new)

-- the same in a transaction; a statement that is refused may have rolled it back
abbrev pub AppendsWithin : {T E : Type 0} → State → State → ℕ → List ℕ → Result T E → Type 0
AppendsWithin old new place payload r =
    (kept records : List (List ℕ)) → IsAdding kept records old → place ≡ length records
    → MatchResult r (λ _. IsAdding kept (records ++ payload ∷ []) new)
    (λ _. IsAdding kept records new ⊎ Keeps kept new)

-- making the table, if there is nothing, and if there is this table
pub record Makes {T E : Type 0} (old new : State) (r : Result T E) : Type 0 where
  pub first : IsAtRest no_schema old
      → MatchResult r (λ _. Keeps [] new) (λ _. IsAtRest no_schema new)
  pub again : (records : List (List ℕ)) → Keeps records old → Keeps records new

-- reading the payload at one place
pub record Loads {E : Type 0} (old new : State) (place : ℕ) (r : Result Row E) : Type 0 where
  pub stays : (records : List (List ℕ)) → Keeps records old → Keeps records new
  pub finds : (records : List (List ℕ)) → Keeps records old → IfOk r
      (λ row. option_map (λ payload. Bytes payload ∷ []) (slice_get records place) ≡ Some row)

-- the row shows a place below this one
abbrev pub IsPlaceBelow : ℕ → Row → Type 0
IsPlaceBelow bound row = (place : ℕ) × (row ≡ Int (pos place) ∷ []) × (place < bound)

-- reading all places
pub record Lists {A E : Type 0} (old new : State) (r : Result (Vec Row A) E) : Type 0 where
  pub stays : (records : List (List ℕ)) → Keeps records old → Keeps records new
  pub finds : (records : List (List ℕ)) → Keeps records old → IfOk r
      (λ rows. (length rows.items ≡ length records)
      × All (IsPlaceBelow (length records)) rows.items)
