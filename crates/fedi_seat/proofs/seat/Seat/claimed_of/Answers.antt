use Rattle.std.proofs.Common.{◌∙◌, ap, subst, sym}
use Rattle.fedi_log.specs.Claims.{HasClaimed}
use Rattle.fedi_town.specs.Histories.{town}
use Rattle.fedi_seat.proofs.Seating.{pair_held}
use Rattle.fedi_seat.proofs.seat.Seat.claimed_of.Goals as goal

pub returns : goal.returns
returns g c = λ by p has.
    let core = c.self.inside.core in
    let claim = c.args.claim.now in
    let here = subst (λ l. HasClaimed by l p claim) (sym (ap (λ m. m.log) c.self.view_is)) has in
    let same = pair_held (town core.history) core.rows _ by p claim c.self.invariant.stand here in (
      c.activity_of.ensures ∙ ap (λ q. q.activity) same,
      c.recipient_of.ensures.recipient ∙ ap (λ q. q.recipient) same,
    )
