use Rattle.std.proofs.Common.{◌≡◌, IfSome, subst}
use Rattle.fedi_core.specs.Opening.{IsUnopened}
use Rattle.std.proofs.lemmas.Result.{err_from_is_err_and}
use Rattle.fedi_core.proofs.Reopening.{same_history, unopened}
use Rattle.fedi_core.proofs.machine.Core.reopen.Goals as goal

pub returns-in_err-open_history-clause-refused : goal.returns-in_err-open_history-clause-refused
returns-in_err-open_history-clause-refused g c =
    let p = err_from_is_err_and c.from_residual.result c.from_residual.ensures.1 in
    let k = g.P.Keeper.shown c.self.inside.keeper in
    let f = g.S.Shelf.holding c.self.inside.shelf in
    let read = (g.S.Shelf.holding c.open_history.new.shelf).history in
    let is = unopened f k c.in_err-open_history.field-0.0 read (g.met.P.Keeper.told_held c.self.inside.keeper) c.self.invariant.stands c.in_err-open_history.ensures.stopped in
    rw (p.1, p.2)
    (subst (λ m. IsUnopened (g.P.Keeper.shown m.keeper).records m.history c.in_err-open_history.field-0.0) c.self.view_is is)

pub returns-clause-history : goal.returns-clause-history
returns-clause-history g c =
    let k = g.P.Keeper.shown c.self.inside.keeper in
    let f = g.S.Shelf.holding c.self.inside.shelf in
    let new = g.S.Shelf.holding c.open_history.new.shelf in
    let same = same_history f new k (g.met.P.Keeper.told_held c.self.inside.keeper) c.self.invariant.stands c.in_ok-open_history.ensures.opened in
    subst (λ m. IfSome (g.P.Keeper.shown m.keeper).records (λ _. new.history ≡ m.history)) c.self.view_is same
