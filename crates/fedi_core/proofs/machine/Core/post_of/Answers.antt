use Rattle.std.proofs.Common.{ap, subst, sym, ◌∙◌}
use Rattle.std.specs.Prelude.{IsTrue, is_some}
use Rattle.fedi_delivery.specs.Deliveries.{peer_for}
use Rattle.fedi_town.specs.Histories.{town}
use Rattle.fedi_town.specs.Legal.{IsLegal}
use Rattle.fedi_core.proofs.Claims.{claim_reaches}
use Rattle.fedi_core.proofs.machine.Core.post_of.Goals as goal

pub outgoing-requires-clause-host : goal.outgoing-requires-clause-host
outgoing-requires-clause-host g c =
    let legal = subst IsLegal (ap (λ m. m.history) c.self.view_is) c.self.invariant.stands.legal in
    let towns = ap (λ f. f.town) c.facts-facts.ensures ∙ c.self.invariant.stands.made ∙ ap (λ m. town m.history) c.self.view_is in
    let reached = claim_reaches c.args.self.now.history c.args.claim.now _ c.recipient_of-recipient.result.now legal c.recipient_of-recipient.ensures.delivery in
    subst (λ t. IsTrue (is_some t.host)) (sym towns) reached.host

pub outgoing-requires-clause-peer : goal.outgoing-requires-clause-peer
outgoing-requires-clause-peer g c =
    let legal = subst IsLegal (ap (λ m. m.history) c.self.view_is) c.self.invariant.stands.legal in
    let towns = ap (λ f. f.town) c.facts-facts.ensures ∙ c.self.invariant.stands.made ∙ ap (λ m. town m.history) c.self.view_is in
    let reached = claim_reaches c.args.self.now.history c.args.claim.now _ c.recipient_of-recipient.result.now legal c.recipient_of-recipient.ensures.delivery in
    subst (λ t. IsTrue (is_some (peer_for t c.recipient_of-recipient.result.now))) (sym towns) reached.peer
