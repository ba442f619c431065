use Rattle.std.proofs.Common.{◌≡◌, [], rules, subst, sym}
use Rattle.sqlite.specs.Held.{state}
use Rattle.fedi_sqlite.specs.Kept.{IsAdding}
use Rattle.fedi_sqlite.proofs.Steps.{stays_open}
use Rattle.fedi_sqlite.proofs.FillingSteps.{begins, carried, carried_all, committed, dropped, not_committed, refused}
use Rattle.fedi_sqlite.proofs.filling.fill_empty.Goals as goal

pub returns-then-not-is_autocommit-clause-filled : goal.returns-then-not-is_autocommit-clause-filled
returns-then-not-is_autocommit-clause-filled g c steady keeps = keeps

pub returns-in_err-copy_rows-clause-filled : goal.returns-in_err-copy_rows-clause-filled
returns-in_err-copy_rows-clause-filled g c steady keeps =
    let last = c.copy_rows.new.within.conn.now in
    let end = c.drop-within.new.self.0 in
    let start = subst (λ h. IsAdding [] [] (state g.S.Store h)) (sym c.transaction-within.ensures.begun) (begins g.S.Store c.args.conn.now [] keeps) in
    let calm = steady last end in
    let left = dropped [] (state g.S.Store last) (state g.S.Store end) _ calm c.drop-within.ensures.survives (c.in_err-copy_rows.ensures.copied steady [] start) (c.drop-within.ensures.undone calm.clean) in
    let same : end ≡ c.conn-1.given.0 = search rules in
    refused c.from_residual.result _ _ c.from_residual.ensures.0 (carried g.S.Store [] end c.conn-1.given.0 same left)

pub returns-in-Ok-clause-filled : goal.returns-in-Ok-clause-filled
returns-in-Ok-clause-filled g c steady keeps =
    let last = c.copy_rows.new.within.conn.now in
    let end = c.commit.new.self.0 in
    let start = subst (λ h. IsAdding [] [] (state g.S.Store h)) (sym c.transaction-within.ensures.begun) (begins g.S.Store c.args.conn.now [] keeps) in
    let it = c.in_ok-copy_rows.ensures.copied steady [] start in
    let shown = (c.in-Ok.ensures.ok (steady last end).clean).1 in
    let same : end ≡ c.conn-2-1.given.0 = search rules in
    carried_all g.S.Store (g.P.Keeper.shown c.args.from.now).records end c.conn-2-1.given.0 same it.0 (committed [] it.0 (state g.S.Store last) (state g.S.Store end) it.1 shown) it.2

pub returns-in-Err-clause-filled : goal.returns-in-Err-clause-filled
returns-in-Err-clause-filled g c steady keeps =
    let last = c.copy_rows.new.within.conn.now in
    let end = c.commit.new.self.0 in
    let start = subst (λ h. IsAdding [] [] (state g.S.Store h)) (sym c.transaction-within.ensures.begun) (begins g.S.Store c.args.conn.now [] keeps) in
    let it = c.in_ok-copy_rows.ensures.copied steady [] start in
    let calm = steady last end in
    let opened = stays_open (state g.S.Store last) (state g.S.Store end) _ calm c.commit.ensures.survives it.1.is_open in
    let same : end ≡ c.conn-2-1.given.0 = search rules in
    carried g.S.Store [] end c.conn-2-1.given.0 same (not_committed [] it.0 (state g.S.Store last) (state g.S.Store end) _ it.1 opened (c.in-Err.ensures.err calm.clean))
