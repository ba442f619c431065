use Rattle.std.proofs.Common.{◌≡◌, ◌∙◌, [], Some, ap, refl, subst, sym}
use Rattle.fedi_core.specs.Delivering.{IsClaimOf, claimed_id, claimed_recipient}
use Rattle.fedi_log.specs.Claims.{claimed_by, free_in}
use Rattle.fedi_logged.specs.Claiming.{Claims}
use Rattle.fedi_logged.specs.Logs.{log_of}
use Rattle.fedi_logged.proofs.Claiming.{claim_noted, pair_for, pair_noted, row_claimed, unclaimed_same}
use Rattle.fedi_logged.proofs.Noting.{noted_more}
use Rattle.fedi_town.specs.Histories.{town}
use Rattle.fedi_seat.proofs.Seating.{seat_claimed, seat_first, seat_idle, seat_same}
use Rattle.fedi_seat.proofs.seat.Seat.claim.Goals as goal

-- ---- nothing was free

pub invariant_of-self : goal.invariant_of-self
invariant_of-self g c =
    let same = unclaimed_same c.args.moment c.self.inside.core c.claim.new.self c.claim.ensures.claimed (sym c.in_default.is ∙ c.claim.ensures.first) in
    seat_same c.self.inside.core.history c.claim.new.self.history c.self.inside.core.rows c.claim.new.self.rows _ (ap (λ x. x.history) same) (ap (λ x. x.rows) same) c.self.invariant

pub returns-in_default-clause-claims : goal.returns-in_default-clause-claims
returns-in_default-clause-claims g c =
    let same = ap (λ m. m.log) c.self.view_is in
    let none = seat_idle c.self.inside.core.history (Some c.args.number) c.args.moment c.self.inside.core.rows _ _ (sym c.in_default.is ∙ c.claim.ensures.first) refl c.self.invariant in
    (subst (λ l. free_in l c.args.moment ≡ []) same none.0, same)

-- ---- the first that was free was claimed

pub invariant_of-self-2 : goal.invariant_of-self-2
invariant_of-self-2 g c =
    let before = c.self.inside.core in
    let now = c.claim.new.self in
    let claim = c.in-Some.claim in
    let e = c.in-Some.ensures in
    let same = ap (λ x. x.history) e.claimed in
    let of = subst (λ h. IsClaimOf (town h) claim (claimed_id (town h).acts claim) (claimed_recipient now.rows claim)) same e.delivery in
    let row = row_claimed (town before.history) before.rows now.rows c.args.moment claim e.first e.row of in
    let pair = pair_for (town before.history).acts now.rows claim in
    let noted = pair_noted (town before.history).acts now.rows claim c.delivery_of-delivery.result
    (c.delivery_of-delivery.ensures.activity ∙ ap (λ h. claimed_id (town h).acts claim) same) c.delivery_of-delivery.ensures.recipient in
    let log = noted_more c.self.inside.opened.value.history c.self.inside.noted c.push.new.self _ _ (Some c.args.number) (claimed_by pair claim) c.push.ensures refl refl
    (claim_noted pair claim c.delivery_of-delivery.result c.args.moment noted (sym (ap (λ x. x.moment) row.is))) in
    seat_claimed before.history now.history (Some c.args.number) c.args.moment before.rows now.rows claim _ _ same (ap (λ x. x.rows) e.claimed) row log c.self.invariant

pub returns-clause-claims : goal.returns-clause-claims
returns-clause-claims g c =
    let before = c.self.inside.core in
    let now = c.claim.new.self in
    let claim = c.in-Some.claim in
    let e = c.in-Some.ensures in
    let same = ap (λ x. x.history) e.claimed in
    let of = subst (λ h. IsClaimOf (town h) claim (claimed_id (town h).acts claim) (claimed_recipient now.rows claim)) same e.delivery in
    let row = row_claimed (town before.history) before.rows now.rows c.args.moment claim e.first e.row of in
    let pair = pair_for (town before.history).acts now.rows claim in
    let noted = pair_noted (town before.history).acts now.rows claim c.delivery_of-delivery.result
    (c.delivery_of-delivery.ensures.activity ∙ ap (λ h. claimed_id (town h).acts claim) same) c.delivery_of-delivery.ensures.recipient in
    let log = noted_more c.self.inside.opened.value.history c.self.inside.noted c.push.new.self _ _ (Some c.args.number) (claimed_by pair claim) c.push.ensures refl refl
    (claim_noted pair claim c.delivery_of-delivery.result c.args.moment noted (sym (ap (λ x. x.moment) row.is))) in
    subst (λ l. Claims (Some c.args.number) c.args.moment l (log_of c.self.inside.opened.value.history c.push.new.self) (Some claim)) (ap (λ m. m.log) c.self.view_is)
    (seat_first before.history (Some c.args.number) c.args.moment before.rows now.rows claim _ _ row log c.self.invariant)
