use Rattle.std.proofs.Common.{w64}
use mir.ValLaws.{to_z_pos}
use Rattle.sqlite.specs.Held.{state}
use Rattle.fedi_sqlite.proofs.Steps.{appends_within, stays_open}
use Rattle.fedi_sqlite.proofs.statements.insert_within.Goals as goal

pub returns-clause-rows : goal.returns-clause-rows
returns-clause-rows g c calm =
    appends_within (state g.S.Store c.args.within.now.conn.now) (state g.S.Store c.execute.new.self.conn.now) (stays_open (state g.S.Store c.args.within.now.conn.now) (state g.S.Store c.execute.new.self.conn.now) _ calm c.execute.ensures.survives) c.args.place c.args.payload.now c.execute.result
    (λ within. rw (c.params-to_sql.ensures, c.params-to_sql-2.ensures, to_z_pos w64 c.args.place c.requires) at (c.execute.ensures.runs calm.clean within))
