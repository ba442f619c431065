use Rattle.std.proofs.Common.{IfOk, ap, subst, sym}
use Rattle.fedi_log.specs.Claims.{HasClaimed}
use Rattle.fedi_logged.specs.Claiming.{IsPostSince}
use Rattle.fedi_seat.proofs.Seating.{seat_posts}
use Rattle.fedi_seat.proofs.seat.Seat.inbox_post.Goals as goal

pub returns : goal.returns
returns g c = λ by p has.
    let same = ap (λ m. m.log) c.self.view_is in
    let claim = c.args.claim.now in
    subst (λ l. IfOk c.inbox_post.result (λ text. IsPostSince l p c.args.inbox.now c.args.body.now text.items)) same
    (seat_posts c.self.inside.core.history c.self.inside.core.rows _ by p claim c.args.inbox.now c.args.body.now c.inbox_post.result
    c.self.invariant (subst (λ l. HasClaimed by l p claim) (sym same) has) c.inbox_post.ensures)
