use Rattle.std.proofs.Common.{◌∙◌, ap, subst, sym}
use Rattle.fedi_log.specs.Claims.{HasClaimed}
use Rattle.fedi_log.specs.Log.{history_of}
use Rattle.fedi_logged.specs.Claiming.{IsSending}
use Rattle.fedi_town.specs.Histories.{town}
use Rattle.fedi_seat.proofs.Seating.{seat_sending}
use Rattle.fedi_seat.proofs.seat.Seat.sent_by.Goals as goal

pub returns : goal.returns
returns g c = λ by p has.
    let same = ap (λ m. m.log) c.self.view_is in
    let claim = c.args.claim.now in
    subst (λ l. IsSending (town (history_of l)) p claim c.in_ok-recipient.recipient c.in_ok-outgoing.outgoing) same
    (seat_sending c.self.inside.core.history c.self.inside.core.rows _ by p claim c.in_ok-recipient.recipient c.in_ok-outgoing.outgoing
    c.self.invariant (subst (λ l. HasClaimed by l p claim) (sym same) has) c.in_ok-outgoing.ensures (c.in_ok-recipient.ensures ∙ c.recipient_of.ensures.recipient))
