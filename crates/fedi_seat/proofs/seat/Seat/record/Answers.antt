use Rattle.std.proofs.Common.{◌∙◌, Some, ap, refl, subst, sym}
use Rattle.fedi_core.specs.Delivering.{keep_fault}
use Rattle.fedi_core.specs.Keeping.{Keeps, fault_by}
use Rattle.fedi_log.specs.Claims.{HasClaimed}
use Rattle.fedi_logged.specs.Claiming.{tried, what_after}
use Rattle.fedi_logged.proofs.Claiming.{pair_noted}
use Rattle.fedi_logged.proofs.Noting.{noted_more}
use Rattle.fedi_logged.proofs.Recording.{AreRecorded, KeepsTried, claims_by}
use Rattle.fedi_town.specs.Histories.{town}
use Rattle.fedi_seat.proofs.Seating.{pair_held, seat_recorded}
use Rattle.fedi_seat.proofs.Serving.{record_is_calm}
use Rattle.fedi_seat.proofs.seat.Seat.record.Goals as goal

pub invariant_of-self : goal.invariant_of-self
invariant_of-self g c =
    let k = g.P.Keeper in
    let before = c.self.inside.core in
    let after = c.record-recorded.new.self in
    let e = c.record-recorded.ensures in
    let r = c.record-recorded.result in
    let p = c.requires.claimed.0 in
    let has = subst (λ l. HasClaimed (Some c.args.number) l p c.args.claim) (sym (ap (λ m. m.log) c.self.view_is)) c.requires.claimed.1 in
    let same = pair_held (town before.history) before.rows _ (Some c.args.number) p c.args.claim c.self.invariant.stand has in
    let pair = pair_noted (town before.history).acts before.rows c.args.claim c.delivery_of-delivery.result c.delivery_of-delivery.ensures.activity c.delivery_of-delivery.ensures.recipient ∙ same in
    let log = noted_more c.self.inside.opened.value.history c.self.inside.noted c.push.new.self _ _ (Some c.args.number) (what_after p c.args.came c.args.moment r) c.push.ensures refl refl
    (c.deed_after-deed.ensures ∙ ap (λ q. what_after q c.args.came c.args.moment r) pair) in
    let is = subst (λ q. KeepsTried k before after q c.args.came c.args.moment r) same e.keeps in
    let are : AreRecorded k before after p c.args.came c.args.moment c.args.claim r =
    record { claims = claims_by _ keep_fault r is.claims; released = e.released; counted = e.counted; queue = e.queue } in
    seat_recorded k before after (Some c.args.number) p c.args.claim c.args.came c.args.moment _ _ r is are has log c.self.invariant

pub returns : goal.returns
returns g c = record {
  recorded = λ p claimed.
      let before = c.self.inside.core in
      let r = c.record-recorded.result in
      let view = ap (λ m. m.log) c.self.view_is in
      let has = subst (λ l. HasClaimed (Some c.args.number) l p c.args.claim) (sym view) claimed in
      let same = pair_held (town before.history) before.rows _ (Some c.args.number) p c.args.claim c.self.invariant.stand has in
      let pair = pair_noted (town before.history).acts before.rows c.args.claim c.delivery_of-delivery.result c.delivery_of-delivery.ensures.activity c.delivery_of-delivery.ensures.recipient ∙ same in
      rw (sym view) (noted_more c.self.inside.opened.value.history c.self.inside.noted c.push.new.self _ _ (Some c.args.number) (what_after p c.args.came c.args.moment r) c.push.ensures refl refl
      (c.deed_after-deed.ensures ∙ ap (λ q. what_after q c.args.came c.args.moment r) pair));
  machine = λ p claimed.
      let before = c.self.inside.core in
      let r = c.record-recorded.result in
      let has = subst (λ l. HasClaimed (Some c.args.number) l p c.args.claim) (sym (ap (λ m. m.log) c.self.view_is)) claimed in
      let same = pair_held (town before.history) before.rows _ (Some c.args.number) p c.args.claim c.self.invariant.stand has in
      subst (λ m. Keeps g.P.Keeper m c.record-recorded.new.self (tried p c.args.came c.args.moment) (fault_by keep_fault r)) (ap (λ m. m.core) c.self.view_is)
      (subst (λ q. KeepsTried g.P.Keeper before c.record-recorded.new.self q c.args.came c.args.moment r) same c.record-recorded.ensures.keeps);
  calm = record_is_calm g.P.Keeper.room _ (g.P.Keeper.shown c.self.inside.core.keeper) (g.P.Keeper.shown c.record-recorded.new.self.keeper) c.record-recorded.result
      (g.met.P.Calm.faultless c.self.inside.core.keeper) (g.met.P.Calm.faultless c.record-recorded.new.self.keeper) c.record-recorded.ensures.keeps.refused;
}
