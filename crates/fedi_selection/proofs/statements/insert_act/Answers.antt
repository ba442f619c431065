use Rattle.std.proofs.Common.{arith, w64}
use mir.ValLaws.{to_z_pos}
use Rattle.sqlite.specs.Held.{state}
use Rattle.fedi_selection.proofs.Steps.{adds_act_or_not, stays_open}
use Rattle.fedi_selection.proofs.statements.insert_act.Goals as goal

pub returns-clause-rows : goal.returns-clause-rows
returns-clause-rows g c calm =
    let old = state g.S.Store c.args.tx.now.conn.now in
    let new = state g.S.Store c.execute.new.self.conn.now in
    let low = c.place-at.ensures.bound in
    let early = c.moment-when.ensures.bound in
    adds_act_or_not old new (stays_open old new _ calm c.execute.ensures.survives) c.args.row.now c.execute.result
    (rw (c.params-to_sql.ensures, c.params-to_sql-2.ensures, c.params-to_sql-3.ensures, c.params-to_sql-4.ensures, c.params-to_sql-5.ensures, c.params-to_sql-6.ensures, to_z_pos w64 c.place-at.result (omega (arith, low)), to_z_pos w64 c.moment-when.result (omega (arith, early)), c.place-at.ensures.value, c.moment-when.ensures.value, c.id.ensures, c.actor.ensures, c.kind.ensures, c.state.ensures)
    at (c.execute.ensures.runs calm.clean))
