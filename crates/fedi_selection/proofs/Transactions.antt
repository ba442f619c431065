-- How a transaction ends.
use Rattle.std.proofs.Common.{◌≡◌, inl, inr, true, false, List, [], Result, Ok, Err, MatchResult, OnOk, IfErr, IsTrue, sym, ap, ◌∙◌}
use Rattle.sqlite.specs.Effect.{Database}
use Rattle.sqlite.specs.Order.{Row}
use Rattle.sqlite.specs.Schema.{Schema}
use Rattle.sqlite.specs.State.{State, KeepsCounts, Shows}
use Rattle.sqlite.specs.Steps.{FailsToCommit}
use Rattle.sqlite.specs.declared.error.Error.{Error}
use Rattle.fedi_selection.specs.Databases.{Holds, IsUndoable, Rests}
use Rattle.fedi_selection.proofs.Steps.{undone}

pub committed : (schema : Schema) (base : Database) (rows : List Row) (last end : State) → Holds schema base rows last → Shows last end last.now last.now false → Rests schema rows end
committed schema base rows last end holds shows = record {
  rest = record {
    is_open = shows.is_open;
    autocommit = shows.mode;
    settled = shows.committed_is ∙ sym shows.now_is;
    schema_is = ap (λ (d : Database). d.schema) shows.now_is ∙ holds.schema_is;
  };
  rows_are = ap (λ (d : Database). d.trees 0) shows.now_is ∙ holds.rows_are;
}

-- what a transaction holds can be undone
pub held_undoable : (schema : Schema) (base : Database) (rows : List Row) (s : State) → Holds schema base rows s → IsUndoable base s
held_undoable schema base rows s holds = record { is_open = holds.is_open; committed = holds.committed }

pub uncommitted : (schema : Schema) (before rows : List Row) (first last end : State) (e : Error) → Rests schema before first → Holds schema first.now rows last → IsTrue end.is_open → FailsToCommit last end e
    → Rests schema before end
uncommitted schema before rows first last end e rests holds opened (inl fails) = undone schema before first last end rests (held_undoable schema first.now rows last holds) opened fails.3
uncommitted schema before rows first last end e rests holds opened (inr late) = absurd (let e : true ≡ false = sym holds.inside ∙ late.1 in cc)

-- the rows that it holds are there once it is committed, and those before it if it is not
pub ended : {T : Type 0} (schema : Schema) (before rows : List Row) (first last end : State) (r : Result T Error) → Rests schema before first → Holds schema first.now rows last → IsTrue end.is_open
    → OnOk r (IsTrue last.in_transaction × Shows last end last.now last.now false × KeepsCounts last end × (end.marks ≡ [])) → IfErr r (FailsToCommit last end) → MatchResult r (λ _. Rests schema rows end) (λ _. Rests schema before end)
ended schema before rows first last end (Ok x) rests holds opened ok err = committed schema first.now rows last end holds ok.1
ended schema before rows first last end (Err e) rests holds opened ok err = uncommitted schema before rows first last end e rests holds opened err
