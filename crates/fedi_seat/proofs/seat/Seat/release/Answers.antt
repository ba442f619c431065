use Rattle.std.proofs.Common.{◌∙◌, Some, ap, refl, subst, sym}
use Rattle.fedi_log.specs.Claims.{HasClaimed}
use Rattle.fedi_log.specs.declared.items.What.TheVariants.{Released}
use Rattle.fedi_logged.proofs.Claiming.{pair_noted}
use Rattle.fedi_logged.proofs.Noting.{noted_more}
use Rattle.fedi_town.specs.Histories.{town}
use Rattle.fedi_seat.proofs.Seating.{pair_held, seat_released}
use Rattle.fedi_seat.proofs.seat.Seat.release.Goals as goal

pub invariant_of-self : goal.invariant_of-self
invariant_of-self g c =
    let before = c.self.inside.core in
    let now = c.release.new.self in
    let p = c.requires.claimed.0 in
    let has = subst (λ l. HasClaimed (Some c.args.number) l p c.args.claim) (sym (ap (λ m. m.log) c.self.view_is)) c.requires.claimed.1 in
    let pair = pair_noted (town before.history).acts before.rows c.args.claim c.delivery_of-delivery.result c.delivery_of-delivery.ensures.activity c.delivery_of-delivery.ensures.recipient
    ∙ pair_held (town before.history) before.rows _ (Some c.args.number) p c.args.claim c.self.invariant.stand has in
    let log = noted_more c.self.inside.opened.value.history c.self.inside.noted c.push.new.self _ _ (Some c.args.number) (Released p) c.push.ensures refl refl (ap Released pair) in
    seat_released before.history now.history (Some c.args.number) p c.args.claim before.rows now.rows _ _ (ap (λ x. x.history) c.release.ensures.released) has
    (ap (λ x. x.rows) c.release.ensures.released) log c.self.invariant

pub returns : goal.returns
returns g c = record {
  released = λ p claimed.
      let before = c.self.inside.core in
      let same = ap (λ m. m.log) c.self.view_is in
      let has = subst (λ l. HasClaimed (Some c.args.number) l p c.args.claim) (sym same) claimed in
      let pair = pair_noted (town before.history).acts before.rows c.args.claim c.delivery_of-delivery.result c.delivery_of-delivery.ensures.activity c.delivery_of-delivery.ensures.recipient
      ∙ pair_held (town before.history) before.rows _ (Some c.args.number) p c.args.claim c.self.invariant.stand has in
      rw (sym same) (noted_more c.self.inside.opened.value.history c.self.inside.noted c.push.new.self _ _ (Some c.args.number) (Released p) c.push.ensures refl refl (ap Released pair));
  machine = record {
    history = ap (λ x. x.history) c.release.ensures.released ∙ ap (λ m. m.core.history) c.self.view_is;
    keeper = ap (λ x. x.keeper) c.release.ensures.released ∙ ap (λ m. m.core.keeper) c.self.view_is;
  };
}
