-- What a selection over a table knows of it, and shows.
use Rattle.std.specs.Prelude.{◌≡◌, ℕ, pos, negsuc, Bool, true, false, List, [], map, Option, Some}
use Rattle.std.specs.Prelude.{None, IsTrue, Result, IfOk, MatchResult, Vec, refl}
use Rattle.std.specs.Coded.{Coded, code_by, coded×, coded_ℕ, coded_bool}
use Rattle.fedi_selection.specs.ActRows.{ActFields, AreInOrder, picked}
use Rattle.fedi_selection.specs.Acts.{act_row, act_schema}
use Rattle.fedi_selection.specs.Databases.{IsSteady, Rests}
use Rattle.fedi_selection.specs.Selections.{SelectionState}
use Rattle.sqlite.specs.declared.types.Value.{Value}
use Rattle.sqlite.specs.declared.types.Value.TheVariants.{Null, Int, Real, Text, Blob}
use Rattle.sqlite.specs.Held.{Held, held_code, state}
use Rattle.sqlite.specs.Order.{Row}
use Rattle.sqlite.specs.State.{State}
use Rattle.sqlite.specs.Store.{Ghosts}
use Rattle.sqlite_value.specs.Order.{column}

-- ---- the rows of the table

-- the text of a value that is one
abbrev pub text_in : Value → List ℕ
text_in Null = []
text_in (Int n) = []
text_in (Real x) = []
text_in (Text t) = t
text_in (Blob b) = []

-- the number of a value that is one
abbrev pub number_in : Value → ℕ
number_in Null = 0
number_in (Int (pos n)) = n
number_in (Int (negsuc n)) = 0
number_in (Real x) = 0
number_in (Text t) = 0
number_in (Blob b) = 0

-- the activity that a row of the table holds
abbrev pub act_in : Row → ActFields
act_in row = record {
  place = number_in (column row 0);
  id = text_in (column row 2);
  actor = text_in (column row 3);
  kind = text_in (column row 4);
  state = text_in (column row 5);
  moment = number_in (column row 6);
}

-- the activities that the table holds
abbrev pub acts_in : State → List ActFields
acts_in s = map act_in (s.now.trees 0)

-- ---- what is known

-- the table holds these activities, in the order of their places
pub record Lies (acts : List ActFields) (s : State) : Type 0 where
  pub rests : Rests act_schema (map act_row acts) s
  pub order : AreInOrder acts

-- what a selection that reports its rows knows of its table
pub record Knows {S : Type 0} (g : Ghosts S) (conn : Held S) : Type 0 where
  pub steady : IsSteady g
  pub lies : Lies (acts_in (state g conn)) (state g conn)

-- it knows this if it reports its rows
abbrev pub IsKnown : {S : Type 0} → Ghosts S → Held S → Bool → Type 0
IsKnown g conn reports = IsTrue reports → Knows g conn

-- ---- what the two calls leave

-- laying these rows: they lie there, or those that did
abbrev pub LaysOver : {T E : Type 0} → List ActFields → State → State → Result T E → Type 0
LaysOver rows old new r =
    (acts : List ActFields) → Lies acts old
    → MatchResult r (λ _. Lies rows new) (λ _. Lies acts new)

-- picking those by this author and of this type
pub record FindsRows {A E : Type 0} (actor kind : List ℕ) (old new : State)
    (r : Result (Vec ActFields A) E) : Type 0 where
  pub stays : (acts : List ActFields) → Lies acts old → Lies acts new
  pub finds : (acts : List ActFields) → Lies acts old
      → IfOk r (λ rows. rows.items ≡ picked actor kind acts)

-- ---- what it shows

-- the fields of a selection over a table
pub record TableState (S : Type 0) : Type 0 where
  pub conn : Held S
  pub faults : ℕ
  pub reports : Bool

-- such fields can be coded if the store can
abbrev pub table_code : {S : Type 0} → Coded S → Coded (TableState S)
table_code {S} store =
    code_by (Held S × (ℕ × Bool)) (coded× (held_code store) (coded× coded_ℕ coded_bool))
    (λ t. (t.conn, (t.faults, t.reports)))
    (λ p. record { conn = p.0; faults = p.1.0; reports = p.1.1 }) (λ _. refl)

-- the activities, if they are reported
abbrev pub reported : Bool → State → Option (List ActFields)
reported true s = Some (acts_in s)
reported false s = None

-- a selection over a table, as its callers see it
abbrev pub table_shown : {S : Type 0} → Ghosts S → TableState S → SelectionState
table_shown g t = record { laid = reported t.reports (state g t.conn); faults = t.faults }
