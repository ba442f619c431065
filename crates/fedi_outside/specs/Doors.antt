-- What a door gives, what is reported to it, and the rows that it reports.
use Rattle.std.specs.Prelude.{◌≡◌, ℕ, Bool, false, true, List, [], ◌∷◌, ◌++◌, Option, Some, None}
use Rattle.std.specs.Prelude.{IfSome, option_map}
use Rattle.fedi_outside.specs.Causes.{next_count}
use Rattle.fedi_outside.specs.declared.turns.Rest.{Rest}
use Rattle.fedi_outside.specs.declared.turns.Turn.{Turn}
use Rattle.fedi_outside.specs.declared.turns.Turn.TheVariants.{Line, Idle, Closed, Failed}

-- ---- rows

-- a line as it came
pub record Coming : Type 0 where
  pub input : Option (List ℕ)  -- the bytes to come, if it reports them
  pub begun : Option (List ℕ)  -- the bytes that were sent before, if it reports them

-- a line that came back
pub record Spoken : Type 0 where
  pub came : Coming
  pub left : Option (List ℕ)  -- the bytes that were not taken, if it reports them
  pub sent : Option (List ℕ)  -- the bytes that were sent, if it reports them
  pub reads : ℕ  -- how many reads failed
  pub writes : ℕ  -- how many writes failed

-- a line that came back, or what was done while no connection waited
pub data Row : Type 0 where
  Served : Spoken → Row
  Rested : Rest → Row

-- the line as it came, given these meanings of a line
abbrev pub coming_by : {L : Type 0} → (L → Option (List ℕ)) → (L → Option (List ℕ)) → L → Coming
coming_by left sent line = record { input = left line; begun = sent line }

-- the line that came like this and is now this one, given these meanings of a line
abbrev pub spoken_by : {L : Type 0} → (L → Option (List ℕ)) → (L → Option (List ℕ)) → (L → ℕ)
    → (L → ℕ) → Coming → L → Spoken
spoken_by left sent reads writes came line = record {
  came = came;
  left = left line;
  sent = sent line;
  reads = reads line;
  writes = writes line;
}

-- one more row, if rows are reported
abbrev pub with_row : Row → Option (List Row) → Option (List Row)
with_row row rows = option_map (λ (rs : List Row). rs ++ row ∷ []) rows

-- ---- turns

-- nothing was sent on the line, and no call of it has failed
abbrev pub IsNewLine : {L : Type 0} → (L → Option (List ℕ)) → (L → ℕ) → (L → ℕ) → L → Type 0
IsNewLine sent reads writes line =
    IfSome (sent line) (λ (text : List ℕ). text ≡ []) × (reads line ≡ 0) × (writes line ≡ 0)

-- after the door gave this turn: which line is out, whether it waits for the report of a rest, and
-- whether it is closed
abbrev pub Gives : {L : Type 0} → (L → Option (List ℕ)) → (L → Option (List ℕ)) → (L → ℕ) → (L → ℕ)
    → Option Coming → Bool → Bool → Turn L → Type 0
Gives left sent reads writes out idle closed (Line l) =
    (out ≡ Some (coming_by left sent l)) × (idle ≡ false) × (closed ≡ false)
    × IsNewLine sent reads writes l
Gives left sent reads writes out idle closed Idle = (out ≡ None) × (idle ≡ true) × (closed ≡ false)
Gives left sent reads writes out idle closed Closed =
    (out ≡ None) × (idle ≡ false) × (closed ≡ true)
Gives left sent reads writes out idle closed Failed =
    (out ≡ None) × (idle ≡ false) × (closed ≡ false)

-- a failed turn is counted, and no other
abbrev pub IsTurnCounted : {L : Type 0} → ℕ → ℕ → Turn L → Type 0
IsTurnCounted before now (Line l) = now ≡ before
IsTurnCounted before now Idle = now ≡ before
IsTurnCounted before now Closed = now ≡ before
IsTurnCounted before now Failed = now ≡ next_count before
