use Rattle.std.proofs.Common.{◌≡◌, ◌∙◌, Some, arith, ap, refl, subst, sym}
use Rattle.fedi_core.specs.Delivering.{IsClaimOf, claimed_id, claimed_recipient}
use Rattle.fedi_log.specs.Claims.{claimed_by, free_in}
use Rattle.fedi_log.specs.Keeping.{state_of}
use Rattle.fedi_logged.specs.Claiming.{Claims}
use Rattle.fedi_logged.specs.Logs.{StandsFor, log_of}
use Rattle.fedi_logged.proofs.Claiming.{claim_noted, claimed_silent, claiming_claimed, claims_none, claims_one, pair_for, pair_noted, row_claimed, unclaimed_same}
use Rattle.fedi_logged.proofs.Noting.{length_more, noted_more}
use Rattle.fedi_logged.proofs.Silent.{stands_silent}
use Rattle.fedi_town.specs.Histories.{town}
use Rattle.fedi_effects.specs.Rosters.{callers_in}
use Rattle.fedi_logged.proofs.logged.Logged.claim.Goals as goal

-- ---- nothing was free

pub invariant_of-self : goal.invariant_of-self
invariant_of-self g c =
    let same = unclaimed_same c.args.moment c.self.inside.core c.claim.new.self c.claim.ensures.claimed (sym c.in_default.is ∙ c.claim.ensures.first) in
    (c.self.invariant.0, rw same c.self.invariant.1, rw same c.self.invariant.2, rw same c.self.invariant.3)

pub returns-in_default-clause-claimed : goal.returns-in_default-clause-claimed
returns-in_default-clause-claimed g c =
    let same = ap (λ m. m.log) c.self.view_is in
    let none = claims_none c.self.inside.core.history c.args.by c.args.moment c.self.inside.core.rows _ _ c.self.inside.front c.self.inside.claimed c.self.invariant.1.legal
    c.self.invariant.1.holds.history (sym c.in_default.is ∙ c.claim.ensures.first) refl c.self.invariant.2 in
    (rw (sym same) none.0, same)

-- ---- the first that was free was claimed

pub invariant_of-self-2 : goal.invariant_of-self-2
invariant_of-self-2 g c =
    let before = c.self.inside.core in
    let now = c.claim.new.self in
    let claim = c.in-Some.claim in
    let e = c.in-Some.ensures in
    let same = ap (λ x. x.history) e.claimed in
    let of = subst (λ h. IsClaimOf (town h) claim (claimed_id (town h).acts claim) (claimed_recipient now.rows claim)) same e.delivery in
    let row = row_claimed (town before.history) before.rows now.rows c.args.moment claim e.first e.row of in
    let pair = pair_for (town before.history).acts now.rows claim in
    let noted = pair_noted (town before.history).acts now.rows claim c.delivery_of-delivery.result
    (c.delivery_of-delivery.ensures.activity ∙ ap (λ h. claimed_id (town h).acts claim) same) c.delivery_of-delivery.ensures.recipient in
    let log = noted_more g.O.Opened.state.history c.self.inside.noted c.push.new.self _ _ c.args.by (claimed_by pair claim) c.push.ensures refl refl
    (claim_noted pair claim c.delivery_of-delivery.result c.args.moment noted (sym (ap (λ x. x.moment) row.is))) in
    let stands = subst (λ x. StandsFor g.P.Keeper.growth g.P.Keeper.room g.O.Opened.state g.O.Opened.crashes (state_of x.history (g.P.Keeper.shown x.keeper)) (g.P.Keeper.crashes x.keeper) (log_of g.O.Opened.state.history c.self.inside.noted))
    (sym e.claimed) c.self.invariant.1 in (
      length_more _ _ _ c.self.inside.front log c.self.invariant.0,
      stands_silent g.P.Keeper.growth g.P.Keeper.room g.O.Opened.state g.O.Opened.crashes c.args.by (claimed_by pair claim) _ _ _ _ (claimed_silent pair claim) log stands,
      claiming_claimed before.history now.history c.args.by c.args.moment before.rows now.rows claim _ _ c.self.inside.front c.self.inside.claimed c.self.invariant.1.legal same
          (ap (λ x. x.rows) e.claimed) e.counted row log (let room = c.if-self-lt2.false in omega (arith, room)) c.self.invariant.2,
      ap (λ h. callers_in (town h)) same ∙ c.self.invariant.3,
    )

pub returns-clause-claimed : goal.returns-clause-claimed
returns-clause-claimed g c =
    let before = c.self.inside.core in
    let now = c.claim.new.self in
    let claim = c.in-Some.claim in
    let e = c.in-Some.ensures in
    let same = ap (λ x. x.history) e.claimed in
    let of = subst (λ h. IsClaimOf (town h) claim (claimed_id (town h).acts claim) (claimed_recipient now.rows claim)) same e.delivery in
    let row = row_claimed (town before.history) before.rows now.rows c.args.moment claim e.first e.row of in
    let pair = pair_for (town before.history).acts now.rows claim in
    let noted = pair_noted (town before.history).acts now.rows claim c.delivery_of-delivery.result
    (c.delivery_of-delivery.ensures.activity ∙ ap (λ h. claimed_id (town h).acts claim) same) c.delivery_of-delivery.ensures.recipient in
    let log = noted_more g.O.Opened.state.history c.self.inside.noted c.push.new.self _ _ c.args.by (claimed_by pair claim) c.push.ensures refl refl
    (claim_noted pair claim c.delivery_of-delivery.result c.args.moment noted (sym (ap (λ x. x.moment) row.is))) in
    subst (λ l. Claims c.args.by c.args.moment l (log_of g.O.Opened.state.history c.push.new.self) (Some claim)) (ap (λ m. m.log) c.self.view_is)
    (claims_one before.history c.args.by c.args.moment before.rows now.rows claim _ _ c.self.inside.front c.self.inside.claimed c.self.invariant.1.legal c.self.invariant.1.holds.history row log
    c.self.invariant.2)
