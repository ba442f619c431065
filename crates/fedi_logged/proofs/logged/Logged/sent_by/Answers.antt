use Rattle.std.proofs.Common.{◌∙◌, ap, subst, sym}
use Rattle.fedi_log.specs.Claims.{HasClaimed}
use Rattle.fedi_log.specs.Log.{history_of}
use Rattle.fedi_logged.specs.Claiming.{IsSending}
use Rattle.fedi_logged.proofs.Claiming.{sending}
use Rattle.fedi_town.specs.Histories.{town}
use Rattle.fedi_logged.proofs.logged.Logged.sent_by.Goals as goal

pub returns : goal.returns
returns g c = λ by p has.
    let same = ap (λ m. m.log) c.self.view_is in
    let claim = c.args.claim.now in
    subst (λ l. IsSending (town (history_of l)) p claim c.in_ok-recipient.recipient c.in_ok-outgoing.outgoing) same
    (sending c.self.inside.core.history c.self.inside.core.rows _ c.self.inside.front c.self.inside.claimed by p claim c.in_ok-recipient.recipient c.in_ok-outgoing.outgoing
    c.self.invariant.2 (subst (λ l. HasClaimed by l p claim) (sym same) has) c.in_ok-outgoing.ensures (c.in_ok-recipient.ensures ∙ c.recipient_of.ensures.recipient)
    c.self.invariant.1.holds.history)
