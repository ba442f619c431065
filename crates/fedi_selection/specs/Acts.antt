-- The table of activities, and what the statements on it leave.
use Rattle.std.specs.Prelude.{◌≡◌, ℕ, pos, List, [], ◌∷◌, ◌++◌, Some, codes, map, true, false}
use Rattle.std.specs.Prelude.{Result, MatchResult, IfOk, Vec, ⊤}
use Rattle.std.specs.List.{AllByRecursion}
use Rattle.std.specs.declared.cmp.Ordering.TheVariants.{Less}
use Rattle.sqlite.specs.Collation.TheVariants.{Binary}
use Rattle.sqlite.specs.declared.types.Value.TheVariants.{Null, Int, Text as Words}
use Rattle.sqlite.specs.Effect.{Database}
use Rattle.sqlite.specs.Order.{Row}
use Rattle.sqlite.specs.Table.{Table}
use Rattle.sqlite.specs.Schema.{Schema}
use Rattle.sqlite.specs.Kind.TheVariants.{Integer, Text}
use Rattle.sqlite.specs.State.{State}
use Rattle.sqlite_value.specs.Order.{value_cmp}
use Rattle.sqlite_trees.specs.Tree.{rowid}
use Rattle.sqlite_schema.specs.declared.schema.Column.{Column}
use Rattle.fedi_selection.specs.ActRows.{ActFields, AreInOrder, picked}
use Rattle.fedi_selection.specs.Databases.{Holds, IsAtRest, IsUndoable, Rests}

-- ---- the table

-- a text that is always there
abbrev pub text_column : List ℕ → Column
text_column name = record {
  name = name;
  kind = Text;
  is_strict = true;
  not_null = true;
  default = Null;
  collation = Binary;
}

-- the table `act`
abbrev pub act_table : Table
act_table = record {
  name = codes "act";
  tree = 0;
  columns =
      (record {
        name = codes "place";
        kind = Integer;
        is_strict = true;
        not_null = false;
        default = Null;
        collation = Binary;
      })
      ∷ text_column (codes "id") ∷ text_column (codes "actor") ∷ text_column (codes "kind")
      ∷ text_column (codes "state")
      ∷ (record {
        name = codes "moment";
        kind = Integer;
        is_strict = true;
        not_null = true;
        default = Null;
        collation = Binary;
      })
      ∷ [];
  key = Some 0;
  primary = 0 ∷ [];
  uniques = [];
  orders = [];
  checks = [];
  references = [];
  computed = [];
  stamps = record { places = []; terms = []; formats = [] };
  is_counted = false;
}

-- a database with this table and nothing else
abbrev pub act_schema : Schema
act_schema = record { tables = act_table ∷ []; indexes = []; views = [] }

-- a database with nothing
abbrev pub no_schema : Schema
no_schema = record { tables = []; indexes = []; views = [] }

-- an activity as the table holds it, whose key is the row's own number
abbrev pub act_row : ActFields → Row
act_row x =
    Int (pos x.place) ∷ Null ∷ Words x.id ∷ Words x.actor ∷ Words x.kind ∷ Words x.state
    ∷ Int (pos x.moment) ∷ []

-- an activity as a query shows it
abbrev pub shown_row : ActFields → Row
shown_row x =
    Int (pos x.place) ∷ Words x.id ∷ Words x.actor ∷ Words x.kind ∷ Words x.state
    ∷ Int (pos x.moment) ∷ []

-- ---- what the statements leave

-- making the table: where there is nothing, and where it is
pub record MakesActs {T E : Type 0} (old new : State) (r : Result T E) : Type 0 where
  pub first : IsAtRest no_schema old → MatchResult r (λ _. Rests act_schema [] new) (λ _. ⊤)
  pub again : (rows : List Row) → Rests act_schema rows old → Rests act_schema rows new

-- the number of each row is below that of this one
abbrev pub IsAfter : List Row → Row → Type 0
IsAfter rows row = AllByRecursion (λ (r : Row). value_cmp (rowid r) (rowid row) ≡ Less) rows

-- adding this row in a transaction, after all others
abbrev pub AddsIn : {T E : Type 0} → Row → State → State → Result T E → Type 0
AddsIn row old new r =
    (base : Database) (rows : List Row) → Holds act_schema base rows old → IsAfter rows row
    → MatchResult r (λ _. Holds act_schema base (rows ++ row ∷ []) new)
    (λ _. IsUndoable base new)

-- deleting all rows in a transaction
abbrev pub ClearsIn : {T E : Type 0} → State → State → Result T E → Type 0
ClearsIn old new r =
    (base : Database) (acts : List ActFields) → Holds act_schema base (map act_row acts) old
    → MatchResult r (λ _. Holds act_schema base [] new) (λ _. IsUndoable base new)

-- showing the activities of this author and this type
pub record ShowsPicked {A E : Type 0} (actor kind : List ℕ) (old new : State)
    (r : Result (Vec Row A) E) : Type 0 where
  pub stays : (rows : List Row) → Rests act_schema rows old → Rests act_schema rows new
  pub finds : (acts : List ActFields) → Rests act_schema (map act_row acts) old → AreInOrder acts
      → IfOk r (λ rows. rows.items ≡ map shown_row (picked actor kind acts))
