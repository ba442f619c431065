use Rattle.sqlite.specs.Held.{state}
use Rattle.fedi_sqlite.proofs.Steps.{lists_or_not, stays_open}
use Rattle.fedi_sqlite.proofs.statements.list_places.Goals as goal

pub returns : goal.returns
returns g c calm =
    lists_or_not (state g.S.Store c.args.conn.now) (state g.S.Store c.query_all.new.self) (stays_open (state g.S.Store c.args.conn.now) (state g.S.Store c.query_all.new.self) _ calm c.query_all.ensures.survives) _ c.query_all.result (c.query_all.ensures.ok calm.clean) (c.query_all.ensures.err calm.clean)
