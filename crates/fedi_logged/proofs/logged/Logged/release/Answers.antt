use Rattle.std.proofs.Common.{◌∙◌, ap, refl, subst, sym}
use Rattle.fedi_log.specs.Claims.{HasClaimed}
use Rattle.fedi_log.specs.Keeping.{state_of}
use Rattle.fedi_log.specs.declared.items.What.TheVariants.{Released}
use Rattle.fedi_logged.specs.Logs.{StandsFor, log_of}
use Rattle.fedi_logged.proofs.Claiming.{claiming_released, pair_is, pair_noted}
use Rattle.fedi_logged.proofs.Noting.{length_more, noted_more}
use Rattle.fedi_logged.proofs.Recording.{released_silent}
use Rattle.fedi_logged.proofs.Silent.{stands_silent}
use Rattle.fedi_town.specs.Histories.{town}
use Rattle.fedi_effects.specs.Rosters.{callers_in}
use Rattle.fedi_logged.proofs.logged.Logged.release.Goals as goal

pub invariant_of-self : goal.invariant_of-self
invariant_of-self g c =
    let before = c.self.inside.core in
    let now = c.release.new.self in
    let p = c.requires.claimed.0 in
    let has = subst (λ l. HasClaimed c.args.by l p c.args.claim) (sym (ap (λ m. m.log) c.self.view_is)) c.requires.claimed.1 in
    let pair = pair_noted (town before.history).acts before.rows c.args.claim c.delivery_of-delivery.result c.delivery_of-delivery.ensures.activity c.delivery_of-delivery.ensures.recipient
    ∙ pair_is (town before.history) before.rows _ c.self.inside.front c.self.inside.claimed c.args.by p c.args.claim c.self.invariant.2 has in
    let log = noted_more g.O.Opened.state.history c.self.inside.noted c.push.new.self _ _ c.args.by (Released p) c.push.ensures refl refl (ap Released pair) in
    let stands = subst (λ x. StandsFor g.P.Keeper.growth g.P.Keeper.room g.O.Opened.state g.O.Opened.crashes (state_of x.history (g.P.Keeper.shown x.keeper)) (g.P.Keeper.crashes x.keeper) (log_of g.O.Opened.state.history c.self.inside.noted))
    (sym c.release.ensures.released) c.self.invariant.1 in (
      length_more _ _ _ c.self.inside.front log c.self.invariant.0,
      stands_silent g.P.Keeper.growth g.P.Keeper.room g.O.Opened.state g.O.Opened.crashes c.args.by (Released p) _ _ _ _ (released_silent p) log stands,
      claiming_released before.history now.history c.args.by p c.args.claim before.rows now.rows _ _ c.self.inside.front c.self.inside.claimed c.self.invariant.1.legal
          (ap (λ x. x.history) c.release.ensures.released) has (ap (λ x. x.rows) c.release.ensures.released) c.release.ensures.counted log c.self.invariant.2,
      ap (λ x. callers_in (town x.history)) c.release.ensures.released ∙ c.self.invariant.3,
    )

pub returns : goal.returns
returns g c = record {
  released = λ p claimed.
      let before = c.self.inside.core in
      let same = ap (λ m. m.log) c.self.view_is in
      let has = subst (λ l. HasClaimed c.args.by l p c.args.claim) (sym same) claimed in
      let pair = pair_noted (town before.history).acts before.rows c.args.claim c.delivery_of-delivery.result c.delivery_of-delivery.ensures.activity c.delivery_of-delivery.ensures.recipient
      ∙ pair_is (town before.history) before.rows _ c.self.inside.front c.self.inside.claimed c.args.by p c.args.claim c.self.invariant.2 has in
      rw (sym same) (noted_more g.O.Opened.state.history c.self.inside.noted c.push.new.self _ _ c.args.by (Released p) c.push.ensures refl refl (ap Released pair));
  turn = record {
    history = ap (λ x. x.history) c.release.ensures.released ∙ ap (λ m. m.core.history) c.self.view_is;
    keeper = ap (λ x. x.keeper) c.release.ensures.released ∙ ap (λ m. m.core.keeper) c.self.view_is;
  };
}
