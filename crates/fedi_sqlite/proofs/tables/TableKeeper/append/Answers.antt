use Rattle.std.proofs.Common.{◌+◌, ap, subst, arith}
use Rattle.fedi_outside.specs.Keepers.{HasAdded}
use Rattle.fedi_sqlite.specs.Tables.{table_shown}
use Rattle.fedi_sqlite.proofs.TableSteps.{added, held_is, known_longer, known_still}
use Rattle.fedi_sqlite.proofs.tables.TableKeeper.append.Goals as goal

pub invariant_of-self : goal.invariant_of-self
invariant_of-self g c =
    let end = ap (λ t. (table_shown g.S.Store t).end) c.self.view_is in
    let same = held_is g.S.Store c.self.inside.conn c.self.inside.held c.self.inside.reports c.self.invariant in
    (known_longer g.S.Store c.self.inside.conn c.insert_row.new.conn c.self.inside.held c.self.inside.reports c.args.payload.now (omega (arith, end, same, c.requires.room)) c.self.invariant
    (λ records calm keeps at. c.in-Ok.ensures calm records keeps at)).0

pub invariant_of-self-in-Err : goal.invariant_of-self-in-Err
invariant_of-self-in-Err g c =
    (known_still g.S.Store c.self.inside.conn c.insert_row.new.conn c.self.inside.held c.self.inside.reports c.self.invariant (λ records calm keeps at. c.in-Err.ensures calm records keeps at)).0

pub returns-in-Ok-clause-added : goal.returns-in-Ok-clause-added
returns-in-Ok-clause-added g c =
    let end = ap (λ t. (table_shown g.S.Store t).end) c.self.view_is in
    let same = held_is g.S.Store c.self.inside.conn c.self.inside.held c.self.inside.reports c.self.invariant in
    subst (λ t. HasAdded (λ _. 1) c.args.payload.now (table_shown g.S.Store t) (table_shown g.S.Store (record { conn = c.insert_row.new.conn; held = c.self.inside.held + 1; faults = c.self.inside.faults; reports = c.self.inside.reports }))) c.self.view_is
    (added g.S.Store c.self.inside.conn c.insert_row.new.conn c.self.inside.held c.self.inside.faults c.self.inside.reports c.args.payload.now (omega (arith, end, same, c.requires.room)) c.self.invariant
    (λ records calm keeps at. c.in-Ok.ensures calm records keeps at))
