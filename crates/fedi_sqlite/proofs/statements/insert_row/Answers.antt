use Rattle.std.proofs.Common.{w64}
use mir.ValLaws.{to_z_pos}
use Rattle.sqlite.specs.Held.{state}
use Rattle.fedi_sqlite.proofs.Steps.{appends_or_not, stays_open}
use Rattle.fedi_sqlite.proofs.statements.insert_row.Goals as goal

pub returns : goal.returns
returns g c calm =
    appends_or_not (state g.S.Store c.args.conn.now) (state g.S.Store c.execute.new.self) (stays_open (state g.S.Store c.args.conn.now) (state g.S.Store c.execute.new.self) _ calm c.execute.ensures.survives) c.args.place c.args.payload.now c.execute.result
    (rw (c.params-to_sql.ensures, c.params-to_sql-2.ensures, to_z_pos w64 c.args.place c.requires) at (c.execute.ensures.runs calm.clean))
