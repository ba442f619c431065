use Rattle.sqlite.specs.Held.{state}
use Rattle.fedi_selection.proofs.Steps.{makes, stays_open}
use Rattle.fedi_selection.proofs.statements.make_acts.Goals as goal

pub returns : goal.returns
returns g c calm =
    let old = state g.S.Store c.args.conn.now in
    let new = state g.S.Store c.execute.new.self in
    makes old new (stays_open old new _ calm c.execute.ensures.survives) c.execute.result (c.execute.ensures.runs calm.clean)
