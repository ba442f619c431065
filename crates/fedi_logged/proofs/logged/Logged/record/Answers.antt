use Rattle.std.proofs.Common.{◌∙◌, ap, refl, subst, sym}
use Rattle.fedi_core.specs.Delivering.{keep_fault}
use Rattle.fedi_core.specs.Keeping.{Keeps, fault_by}
use Rattle.fedi_log.specs.Claims.{HasClaimed}
use Rattle.fedi_log.specs.Keeping.{base_of}
use Rattle.fedi_logged.specs.Claiming.{Records, outcome_of, tried, what_after}
use Rattle.fedi_logged.specs.Logs.{log_of}
use Rattle.fedi_logged.specs.Turns.{Turns, standing_by}
use Rattle.fedi_logged.proofs.Claiming.{pair_is, pair_noted}
use Rattle.fedi_logged.proofs.Noting.{length_more, noted_more}
use Rattle.fedi_logged.proofs.Recording.{AreRecorded, KeepsTried, claims_by, record_callers, record_claims, record_stands, record_turn, records}
use Rattle.fedi_town.specs.Histories.{town}
use Rattle.fedi_logged.proofs.logged.Logged.record.Goals as goal

pub invariant_of-self : goal.invariant_of-self
invariant_of-self g c =
    let k = g.P.Keeper in
    let before = c.self.inside.core in
    let after = c.record-recorded.new.self in
    let e = c.record-recorded.ensures in
    let r = c.record-recorded.result in
    let p = c.requires.claimed.0 in
    let has = subst (λ l. HasClaimed c.args.by l p c.args.claim) (sym (ap (λ m. m.log) c.self.view_is)) c.requires.claimed.1 in
    let same = pair_is (town before.history) before.rows _ c.self.inside.front c.self.inside.claimed c.args.by p c.args.claim c.self.invariant.2 has in
    let pair = pair_noted (town before.history).acts before.rows c.args.claim c.delivery_of-delivery.result c.delivery_of-delivery.ensures.activity c.delivery_of-delivery.ensures.recipient ∙ same in
    let log = noted_more g.O.Opened.state.history c.self.inside.noted c.push.new.self _ _ c.args.by (what_after p c.args.came c.args.moment r) c.push.ensures refl refl
    (c.deed_after-deed.ensures ∙ ap (λ q. what_after q c.args.came c.args.moment r) pair) in
    let is = subst (λ q. KeepsTried k before after q c.args.came c.args.moment r) same e.keeps in
    let are : AreRecorded k before after p c.args.came c.args.moment c.args.claim r =
    record { claims = claims_by _ keep_fault r is.claims; released = e.released; counted = e.counted; queue = e.queue } in (
      length_more _ _ _ c.self.inside.front log c.self.invariant.0,
      record_stands k before after p c.args.came c.args.moment g.O.Opened.state g.O.Opened.crashes c.args.by _ _ r c.self.invariant.1 is log,
      record_claims k before after p c.args.came c.args.moment c.args.by c.args.claim _ _ c.self.inside.front c.self.inside.claimed r c.self.invariant.1.legal is are has log c.self.invariant.2,
      record_callers k before after p c.args.came c.args.moment r is ∙ c.self.invariant.3,
    )

pub returns : goal.returns
returns g c = record {
  recorded = λ p claimed.
      let before = c.self.inside.core in
      let r = c.record-recorded.result in
      let view = ap (λ m. m.log) c.self.view_is in
      let has = subst (λ l. HasClaimed c.args.by l p c.args.claim) (sym view) claimed in
      let same = pair_is (town before.history) before.rows _ c.self.inside.front c.self.inside.claimed c.args.by p c.args.claim c.self.invariant.2 has in
      let pair = pair_noted (town before.history).acts before.rows c.args.claim c.delivery_of-delivery.result c.delivery_of-delivery.ensures.activity c.delivery_of-delivery.ensures.recipient ∙ same in
      let log = noted_more g.O.Opened.state.history c.self.inside.noted c.push.new.self _ _ c.args.by (what_after p c.args.came c.args.moment r) c.push.ensures refl refl
      (c.deed_after-deed.ensures ∙ ap (λ q. what_after q c.args.came c.args.moment r) pair) in
      let is = subst (λ q. KeepsTried g.P.Keeper before c.record-recorded.new.self q c.args.came c.args.moment r) same c.record-recorded.ensures.keeps in
      subst (λ l. Records (base_of g.P.Keeper.growth g.P.Keeper.room g.O.Opened.state) c.args.by l (log_of g.O.Opened.state.history c.push.new.self) p c.args.came c.args.moment r) view
      (records g.P.Keeper before c.record-recorded.new.self p c.args.came c.args.moment g.O.Opened.state c.args.by _ _ r c.self.invariant.1.holds is log);
  machine = λ p claimed.
      let before = c.self.inside.core in
      let r = c.record-recorded.result in
      let has = subst (λ l. HasClaimed c.args.by l p c.args.claim) (sym (ap (λ m. m.log) c.self.view_is)) claimed in
      let same = pair_is (town before.history) before.rows _ c.self.inside.front c.self.inside.claimed c.args.by p c.args.claim c.self.invariant.2 has in
      subst (λ m. Keeps g.P.Keeper m c.record-recorded.new.self (tried p c.args.came c.args.moment) (fault_by keep_fault r)) (ap (λ m. m.core) c.self.view_is)
      (subst (λ q. KeepsTried g.P.Keeper before c.record-recorded.new.self q c.args.came c.args.moment r) same c.record-recorded.ensures.keeps);
  turn = λ p claimed.
      let before = c.self.inside.core in
      let r = c.record-recorded.result in
      let has = subst (λ l. HasClaimed c.args.by l p c.args.claim) (sym (ap (λ m. m.log) c.self.view_is)) claimed in
      let same = pair_is (town before.history) before.rows _ c.self.inside.front c.self.inside.claimed c.args.by p c.args.claim c.self.invariant.2 has in
      let is = subst (λ q. KeepsTried g.P.Keeper before c.record-recorded.new.self q c.args.came c.args.moment r) same c.record-recorded.ensures.keeps in
      subst (λ m. Turns g.P.Keeper.growth (standing_by g.P.Keeper.shown g.P.Keeper.crashes m) (standing_by g.P.Keeper.shown g.P.Keeper.crashes c.record-recorded.new.self) (outcome_of (tried p c.args.came c.args.moment) r)) (ap (λ m. m.core) c.self.view_is)
      (record_turn g.P.Keeper before c.record-recorded.new.self p c.args.came c.args.moment r is);
}
