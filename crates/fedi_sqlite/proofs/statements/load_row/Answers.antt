use Rattle.std.proofs.Common.{w64}
use mir.ValLaws.{to_z_pos}
use Rattle.sqlite.specs.Held.{state}
use Rattle.fedi_sqlite.proofs.Steps.{loads_or_not, stays_open}
use Rattle.fedi_sqlite.proofs.statements.load_row.Goals as goal

pub returns : goal.returns
returns g c calm =
    loads_or_not (state g.S.Store c.args.conn.now) (state g.S.Store c.query_row.new.self) (stays_open (state g.S.Store c.args.conn.now) (state g.S.Store c.query_row.new.self) _ calm c.query_row.ensures.survives) c.args.place c.query_row.result
    (rw (c.params-to_sql.ensures, to_z_pos w64 c.args.place c.requires) at (c.query_row.ensures.row calm.clean))
