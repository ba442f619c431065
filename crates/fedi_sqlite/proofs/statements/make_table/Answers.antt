use Rattle.sqlite.specs.Held.{state}
use Rattle.fedi_sqlite.proofs.Steps.{makes, stays_open}
use Rattle.fedi_sqlite.proofs.statements.make_table.Goals as goal

pub returns : goal.returns
returns g c calm =
    makes (state g.S.Store c.args.conn.now) (state g.S.Store c.execute.new.self) (stays_open (state g.S.Store c.args.conn.now) (state g.S.Store c.execute.new.self) _ calm c.execute.ensures.survives) c.execute.result (c.execute.ensures.runs calm.clean)
