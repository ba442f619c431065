use Rattle.std.proofs.Common.{ap, subst, sym}
use Rattle.fedi_log.specs.Claims.{HasClaimed}
use Rattle.fedi_log.proofs.Claiming.{has_claimed_now}
use Rattle.fedi_logged.specs.Claiming.{IsSending}
use Rattle.fedi_logged.proofs.Claiming.{claim_history}
use Rattle.fedi_town.specs.Histories.{town}
use Rattle.fedi_logged.proofs.logged.Logged.take_up.Goals as goal

pub sent_by-requires : goal.sent_by-requires
sent_by-requires g c =
    let claims = rw c.in-Some.is at c.in_ok-claim.ensures.claimed in
    record { claimed = (c.args.by, (claims.0, subst (λ l. HasClaimed c.args.by l claims.0 c.in-Some.claim) (sym claims.3) (has_claimed_now c.args.by c.args.self.now.log claims.0 c.in-Some.claim))) }

pub returns-in-Ok : goal.returns-in-Ok
returns-in-Ok g c =
    let claims = rw c.in-Some.is at c.in_ok-claim.ensures.claimed in
    let has = subst (λ l. HasClaimed c.args.by l claims.0 c.in-Some.claim) (sym claims.3) (has_claimed_now c.args.by c.args.self.now.log claims.0 c.in-Some.claim) in
    let sent = subst (λ h. IsSending (town h) claims.0 c.in-Some.claim c.in-Ok.recipient c.in-Ok.outgoing) (claim_history c.args.by claims.0 c.in-Some.claim c.args.self.now.log c.claim.new.self.log claims.3)
    (c.in-Ok.ensures c.args.by claims.0 has) in
    record { taken = (claims.0, claims.1, claims.2, sent, claims.3); turn = c.claim.ensures.turn }
