-- What a keeper over a table knows of its database, and what callers see of it.
use Rattle.std.specs.Prelude.{◌≡◌, ◌^◌, ◌≤◌, ℕ, Bool, true, false, List, [], length, map, slice_get}
use Rattle.std.specs.Prelude.{Option, Some, None, IsTrue, IfOk, IfSome, Result, Vec, refl}
use Rattle.std.specs.Coded.{Coded, code_by, coded×, coded_ℕ, coded_bool}
use Rattle.sqlite.specs.declared.types.Value.{Value}
use Rattle.sqlite.specs.declared.types.Value.TheVariants.{Null, Int, Real, Text, Blob}
use Rattle.sqlite.specs.Order.{Row}
use Rattle.sqlite_value.specs.Order.{column}
use Rattle.sqlite.specs.Held.{Held, held_code, state}
use Rattle.sqlite.specs.State.{State}
use Rattle.sqlite.specs.Store.{Ghosts}
use Rattle.fedi_outside.specs.Keepers.{KeeperState}
use Rattle.fedi_sqlite.specs.Kept.{IsCalm, Keeps}

-- the bytes of a value that is a blob
abbrev pub bytes_of : Value → List ℕ
bytes_of Null = []
bytes_of (Int n) = []
bytes_of (Real x) = []
bytes_of (Text t) = []
bytes_of (Blob b) = b

-- the payload in a row of the table
abbrev pub payload_in : Row → List ℕ
payload_in row = bytes_of (column row 2)

-- the records in the rows of the table
abbrev pub records_in : State → List (List ℕ)
records_in s = map payload_in (s.now.trees 0)

-- reading the bytes at one place
pub record LoadsBytes {A E : Type 0} (old new : State) (place : ℕ) (r : Result (Vec ℕ A) E)
    : Type 0 where
  pub stays : (records : List (List ℕ)) → Keeps records old → Keeps records new
  pub finds : (records : List (List ℕ)) → Keeps records old
      → IfOk r (λ bytes. slice_get records place ≡ Some bytes.items)

-- ---- what a keeper knows

-- a store that always returns what was written to it and never fails, as memory does
abbrev pub IsSteady : {S : Type 0} → Ghosts S → Type 0
IsSteady {S} g = (old new : Held S) → IsCalm (state g old) (state g new)

-- the database of this connection has so many records and nothing else, and its store is steady
pub record Knows {S : Type 0} (g : Ghosts S) (conn : Held S) (held : ℕ) : Type 0 where
  pub steady : IsSteady g
  pub keeps : Keeps (records_in (state g conn)) (state g conn)
  pub held_is : held ≡ length (records_in (state g conn))

-- a keeper that reports its records knows this of its database
pub record IsKnown {S : Type 0} (g : Ghosts S) (conn : Held S) (held : ℕ) (reports : Bool)
    : Type 0 where
  pub bound : held ≤ 2 ^ 62
  pub knows : IsTrue reports → Knows g conn held

-- ---- what callers see

-- the records, if they are reported
abbrev pub reported : Bool → State → Option (List (List ℕ))
reported true s = Some (records_in s)
reported false s = None

-- how many records there are: as many as are reported, if they are
abbrev pub held_in : Bool → State → ℕ → ℕ
held_in true s held = length (records_in s)
held_in false s held = held

-- so the count is the number of the records, if they are reported
pub reported_is_held : (reports : Bool) (s : State) (held : ℕ)
    → IfSome (reported reports s) (λ records. held_in reports s held ≡ length records)
reported_is_held true s held = refl
reported_is_held false s held = tt

-- the fields of a keeper over a table
pub record TableState (S : Type 0) : Type 0 where
  pub conn : Held S
  pub held : ℕ  -- how many records it counts
  pub faults : ℕ
  pub reports : Bool  -- whether it reports its records

-- such fields can be compared, as those of a value that contracts see have to
abbrev pub table_code : {S : Type 0} → Coded S → Coded (TableState S)
table_code {S} store =
    code_by (Held S × (ℕ × (ℕ × Bool)))
    (coded× (held_code store) (coded× coded_ℕ (coded× coded_ℕ coded_bool)))
    (λ t. (t.conn, (t.held, (t.faults, t.reports))))
    (λ p. record { conn = p.0; held = p.1.0; faults = p.1.1.0; reports = p.1.1.1 }) (λ _. refl)

-- a keeper over a table, as its callers see it: it ends at its count, any record has room, and
-- nothing is ever in doubt
abbrev pub table_shown : {S : Type 0} → Ghosts S → TableState S → KeeperState
table_shown g t = record {
  records = reported t.reports (state g t.conn);
  held = held_in t.reports (state g t.conn) t.held;
  doubt = None;
  spare = 2 ^ 64;
  end = held_in t.reports (state g t.conn) t.held;
  faults = t.faults;
}
