use Rattle.std.proofs.Common.{◌≡◌, ◌∙◌, IfSome, ap, rules, subst}
use Rattle.fedi_outside.specs.Causes.{next_count}
use Rattle.sqlite.specs.Held.{state}
use Rattle.fedi_selection.specs.ActRows.{picked}
use Rattle.fedi_selection.specs.Tables.{table_shown, reported}
use Rattle.fedi_selection.proofs.Lies.{lies_still, nothing_said, picked_reported}
use Rattle.fedi_selection.proofs.tables.TableSelectionSelection.pick.Goals as goal

pub invariant_of-self : goal.invariant_of-self
invariant_of-self g c = (lies_still g.S.Store c.self.inside.conn c.pick.new.conn c.self.inside.reports c.self.invariant (λ steady acts lies. (c.in-Ok.ensures steady).stays acts lies)).0

pub invariant_of-self-in-Err : goal.invariant_of-self-in-Err
invariant_of-self-in-Err g c = (lies_still g.S.Store c.self.inside.conn c.pick.new.conn c.self.inside.reports c.self.invariant (λ steady acts lies. (c.in-Err.ensures steady).stays acts lies)).0

pub returns-in-Ok-clause-found : goal.returns-in-Ok-clause-found
returns-in-Ok-clause-found g c =
    let found = picked_reported g.S.Store c.self.inside.reports c.self.inside.conn c.args.actor.now c.args.kind.now c.in-Ok.rows.items c.self.invariant (λ steady acts lies. (c.in-Ok.ensures steady).finds acts lies) in
    subst (λ t. IfSome (table_shown g.S.Store t).laid (λ laid. c.in-Ok.rows.items ≡ picked c.args.actor.now c.args.kind.now laid)) c.self.view_is found

pub returns-in-Ok-clause-after : goal.returns-in-Ok-clause-after
returns-in-Ok-clause-after g c =
    let it = lies_still g.S.Store c.self.inside.conn c.pick.new.conn c.self.inside.reports c.self.invariant (λ steady acts lies. (c.in-Ok.ensures steady).stays acts lies) in
    ap (λ laid. record { laid = laid; faults = c.self.inside.faults }) it.1 ∙ ap (table_shown g.S.Store) c.self.view_is

pub returns-in-Err-clause-after : goal.returns-in-Err-clause-after
returns-in-Err-clause-after g c =
    let it = lies_still g.S.Store c.self.inside.conn c.pick.new.conn c.self.inside.reports c.self.invariant (λ steady acts lies. (c.in-Err.ensures steady).stays acts lies) in
    let more : c.saturating_add-self-inside.result ≡ next_count c.self.inside.faults = search rules in
    ap (λ laid. record { laid = laid; faults = c.saturating_add-self-inside.result }) it.1
    ∙ ap (λ n. record { laid = reported c.self.inside.reports (state g.S.Store c.self.inside.conn); faults = n }) more
    ∙ ap (λ t. record (table_shown g.S.Store t) { faults = next_count (table_shown g.S.Store t).faults }) c.self.view_is

pub returns-in-Err-clause-found : goal.returns-in-Err-clause-found
returns-in-Err-clause-found g c = nothing_said (table_shown g.S.Store c.args.self.now).laid
