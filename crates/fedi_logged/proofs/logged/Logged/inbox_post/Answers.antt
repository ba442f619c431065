use Rattle.std.proofs.Common.{IfOk, ap, subst, sym}
use Rattle.fedi_log.specs.Claims.{HasClaimed}
use Rattle.fedi_logged.specs.Claiming.{IsPostSince}
use Rattle.fedi_logged.proofs.Claiming.{posts_since}
use Rattle.fedi_logged.proofs.logged.Logged.inbox_post.Goals as goal

pub returns : goal.returns
returns g c = λ by p has.
    let same = ap (λ m. m.log) c.self.view_is in
    let claim = c.args.claim.now in
    subst (λ l. IfOk c.inbox_post.result (λ text. IsPostSince l p c.args.inbox.now c.args.body.now text.items)) same
    (posts_since c.self.inside.core.history c.self.inside.core.rows _ c.self.inside.front c.self.inside.claimed by p claim c.args.inbox.now c.args.body.now c.inbox_post.result
    c.self.invariant.2 (subst (λ l. HasClaimed by l p claim) (sym same) has) c.self.invariant.1.holds.history c.self.invariant.1.legal c.inbox_post.ensures)
