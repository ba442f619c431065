use Rattle.std.proofs.Common.{◌≡◌, List, map, take}
use Rattle.sqlite.specs.Effect.{Database}
use Rattle.sqlite.specs.Held.{state}
use Rattle.fedi_selection.specs.ActRows.{ActFields}
use Rattle.fedi_selection.specs.Acts.{act_row, act_schema}
use Rattle.fedi_selection.specs.Databases.{Holds, IsSteady}
use Rattle.fedi_selection.proofs.laying.replace_rows.Given as goal

abbrev pub invariant-loop-row : goal.invariant-loop-row
invariant-loop-row g l = record {
  same_reference : l.tx.conn.ghost_name ≡ l.fn.tx.conn.ghost_name;
  holds : IsSteady g.S.Store → (base : Database) (acts : List ActFields) → Holds act_schema base (map act_row acts) (state g.S.Store l.fn.tx.conn.now)
      → Holds act_schema base (map act_row (take l.row-index l.rows)) (state g.S.Store l.tx.conn.now);
}
