use Rattle.sqlite.specs.Held.{state}
use Rattle.fedi_selection.proofs.Picking.{picks_or_not}
use Rattle.fedi_selection.proofs.Steps.{stays_open}
use Rattle.fedi_selection.proofs.statements.pick_acts.Goals as goal

pub returns : goal.returns
returns g c calm =
    let old = state g.S.Store c.args.conn.now in
    let new = state g.S.Store c.query_all.new.self in
    picks_or_not old new (stays_open old new _ calm c.query_all.ensures.survives) c.args.actor.now c.args.kind.now _ c.query_all.result (rw (c.params-to_sql.ensures, c.params-to_sql-2.ensures) at (c.query_all.ensures.ok calm.clean))
    (rw (c.params-to_sql.ensures, c.params-to_sql-2.ensures) at (c.query_all.ensures.err calm.clean))
