use Rattle.std.proofs.Common.{Some, ◌∙◌, ap, refl}
use Rattle.fedi_world.proofs.Taking.{made_of}
use Rattle.fedi_world.proofs.claiming.make.Goals as goal

pub returns : goal.returns
returns g c =
    let p = c.requires.claimed.0 in
    let has = c.requires.claimed.1 in
    let both = c.claimed_of.ensures (Some c.args.attempt) p has in
    made_of c.args.server c.args.attempt c.args.request c.args.seat.now c.args.claim.now _ _ p c.in_ok-recipient.outgoing c.show.ensures.of has
    (c.in_ok-recipient.ensures (Some c.args.attempt) p has) refl refl (ap (λ f. f.history) c.of.ensures ∙ c.facts.ensures.history) (c.of-2.ensures ∙ both.0) refl refl refl refl c.in_ok-to.ensures refl
