use Rattle.std.proofs.Common.{◌≡◌, map, MatchResult, rules, subst, sym}
use Rattle.std.proofs.lemmas.Result.{err_from_is_err_and}
use Rattle.sqlite.specs.Held.{state}
use Rattle.fedi_selection.specs.Acts.{act_row, act_schema}
use Rattle.fedi_selection.specs.Databases.{Holds, Rests}
use Rattle.fedi_selection.proofs.Steps.{begun, stays_open, undone}
use Rattle.fedi_selection.proofs.Transactions.{ended}
use Rattle.fedi_selection.proofs.laying.lay_rows.Goals as goal

pub returns-then-not-is_autocommit : goal.returns-then-not-is_autocommit
returns-then-not-is_autocommit g c steady acts rests = rests

pub transaction-tx-requires : goal.transaction-tx-requires
transaction-tx-requires g c = search rules

pub replace_rows-requires : goal.replace_rows-requires
replace_rows-requires g c = record { order = c.requires.order }

pub returns-in_err-replace_rows : goal.returns-in_err-replace_rows
returns-in_err-replace_rows g c steady acts rests =
    let p = err_from_is_err_and c.from_residual.result c.from_residual.ensures.1 in
    let before = map act_row acts in
    let first = state g.S.Store c.args.conn.now in
    let start = subst (λ h. Holds act_schema first.now before (state g.S.Store h)) (sym c.transaction-tx.ensures.begun) (begun act_schema before first rests) in
    let last = state g.S.Store c.replace_rows.new.tx.conn.now in
    let can = c.in_err-replace_rows.ensures.rows steady first.now acts start in
    let end = c.drop-tx.new.self.0 in
    let calm = steady c.replace_rows.new.tx.conn.now end in
    let opened = stays_open last (state g.S.Store end) _ calm c.drop-tx.ensures.survives can.is_open in
    let back = c.drop-tx.ensures.undone calm.clean in
    let it = undone act_schema before first last (state g.S.Store end) rests can opened back in
    let same : end ≡ c.conn-1.given.0 = search rules in
    rw p.1 (subst (λ h. Rests act_schema before (state g.S.Store h)) same it)

pub returns : goal.returns
returns g c steady acts rests =
    let before = map act_row acts in
    let after = map act_row c.args.rows.now in
    let first = state g.S.Store c.args.conn.now in
    let start = subst (λ h. Holds act_schema first.now before (state g.S.Store h)) (sym c.transaction-tx.ensures.begun) (begun act_schema before first rests) in
    let last = state g.S.Store c.replace_rows.new.tx.conn.now in
    let holds = c.in_ok-replace_rows.ensures.rows steady first.now acts start in
    let end = c.commit.new.self.0 in
    let calm = steady c.replace_rows.new.tx.conn.now end in
    let opened = stays_open last (state g.S.Store end) _ calm c.commit.ensures.survives holds.is_open in
    let it = ended act_schema before after first last (state g.S.Store end) c.commit.result rests holds opened (c.commit.ensures.ok calm.clean) (c.commit.ensures.err calm.clean) in
    let same : end ≡ c.conn-2-1.given.0 = search rules in
    subst (λ h. MatchResult c.commit.result (λ _. Rests act_schema after (state g.S.Store h)) (λ _. Rests act_schema before (state g.S.Store h))) same it
