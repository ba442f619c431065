use Rattle.sqlite.specs.Held.{state}
use Rattle.fedi_selection.proofs.Clearing.{clears_or_not}
use Rattle.fedi_selection.proofs.Steps.{stays_open}
use Rattle.fedi_selection.proofs.statements.clear_acts.Goals as goal

pub returns-clause-rows : goal.returns-clause-rows
returns-clause-rows g c calm =
    let old = state g.S.Store c.args.tx.now.conn.now in
    let new = state g.S.Store c.execute.new.self.conn.now in
    clears_or_not old new (stays_open old new _ calm c.execute.ensures.survives) c.execute.result (c.execute.ensures.runs calm.clean)
