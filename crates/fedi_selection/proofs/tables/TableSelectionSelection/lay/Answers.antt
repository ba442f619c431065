use Rattle.std.proofs.Common.{◌≡◌, ◌∙◌, ap, option_map, rules}
use Rattle.fedi_outside.specs.Causes.{next_count}
use Rattle.sqlite.specs.Held.{state}
use Rattle.fedi_selection.specs.Tables.{table_shown, reported}
use Rattle.fedi_selection.proofs.Lies.{lies_now, lies_still}
use Rattle.fedi_selection.proofs.tables.TableSelectionSelection.lay.Goals as goal

pub lay-requires : goal.lay-requires
lay-requires g c = record { order = c.requires.order }

pub invariant_of-self : goal.invariant_of-self
invariant_of-self g c =
    (lies_now g.S.Store c.self.inside.conn c.lay.new.conn c.self.inside.reports c.args.rows.now c.self.invariant (λ steady acts lies. c.in-Ok.ensures steady acts lies)).0

pub invariant_of-self-in-Err : goal.invariant_of-self-in-Err
invariant_of-self-in-Err g c = (lies_still g.S.Store c.self.inside.conn c.lay.new.conn c.self.inside.reports c.self.invariant (λ steady acts lies. c.in-Err.ensures steady acts lies)).0

pub returns-in-Ok : goal.returns-in-Ok
returns-in-Ok g c =
    let it = lies_now g.S.Store c.self.inside.conn c.lay.new.conn c.self.inside.reports c.args.rows.now c.self.invariant (λ steady acts lies. c.in-Ok.ensures steady acts lies) in
    ap (λ laid. record { laid = laid; faults = c.self.inside.faults }) it.1 ∙ ap (λ t. record (table_shown g.S.Store t) { laid = option_map (λ _. c.args.rows.now) (table_shown g.S.Store t).laid }) c.self.view_is

pub returns-in-Err : goal.returns-in-Err
returns-in-Err g c =
    let it = lies_still g.S.Store c.self.inside.conn c.lay.new.conn c.self.inside.reports c.self.invariant (λ steady acts lies. c.in-Err.ensures steady acts lies) in
    let more : c.saturating_add-self-inside.result ≡ next_count c.self.inside.faults = search rules in
    ap (λ laid. record { laid = laid; faults = c.saturating_add-self-inside.result }) it.1
    ∙ ap (λ n. record { laid = reported c.self.inside.reports (state g.S.Store c.self.inside.conn); faults = n }) more
    ∙ ap (λ t. record (table_shown g.S.Store t) { faults = next_count (table_shown g.S.Store t).faults }) c.self.view_is
