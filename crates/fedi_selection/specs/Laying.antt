-- What laying rows leaves of the table of activities.
use Rattle.std.specs.Prelude.{List, map, Result, MatchResult}
use Rattle.fedi_selection.specs.ActRows.{ActFields}
use Rattle.fedi_selection.specs.Acts.{act_row, act_schema}
use Rattle.fedi_selection.specs.Databases.{Holds, IsUndoable, Rests}
use Rattle.sqlite.specs.Effect.{Database}
use Rattle.sqlite.specs.State.{State}

-- in a transaction: the table has these rows and no other, or all can be undone
abbrev pub LaysIn : {T E : Type 0} → List ActFields → State → State → Result T E → Type 0
LaysIn rows old new r =
    (base : Database) (acts : List ActFields) → Holds act_schema base (map act_row acts) old
    → MatchResult r (λ _. Holds act_schema base (map act_row rows) new) (λ _. IsUndoable base new)

-- the table has these rows and no other, or those that it had
abbrev pub LaysRows : {T E : Type 0} → List ActFields → State → State → Result T E → Type 0
LaysRows rows old new r =
    (acts : List ActFields) → Rests act_schema (map act_row acts) old
    → MatchResult r (λ _. Rests act_schema (map act_row rows) new)
    (λ _. Rests act_schema (map act_row acts) new)
