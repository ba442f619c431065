use Rattle.std.proofs.Common.{◌∙◌, ap, subst, sym}
use Rattle.fedi_log.specs.Claims.{HasClaimed}
use Rattle.fedi_logged.proofs.Claiming.{pair_is}
use Rattle.fedi_town.specs.Histories.{town}
use Rattle.fedi_logged.proofs.logged.Logged.claimed_of.Goals as goal

pub returns : goal.returns
returns g c = λ by p has.
    let core = c.self.inside.core in
    let claim = c.args.claim.now in
    let here = subst (λ l. HasClaimed by l p claim) (sym (ap (λ m. m.log) c.self.view_is)) has in
    let same = pair_is (town core.history) core.rows _ c.self.inside.front c.self.inside.claimed
    by p claim c.self.invariant.2 here in (
      c.activity_of.ensures ∙ ap (λ q. q.activity) same,
      c.recipient_of.ensures.recipient ∙ ap (λ q. q.recipient) same,
    )
