use Rattle.std.proofs.Common.{◌≡◌, Err, None, Some, ap, is_some, refl, subst, sym, ◌∙◌}
use Rattle.fedi_model.specs.Asks.{entry_of}
use Rattle.fedi_model.specs.Replies.{reply}
use Rattle.fedi_model.specs.declared.ask.Ask.TheVariants.{Outbox}
use Rattle.fedi_seat.specs.Serving.{IsGiven}
use Rattle.fedi_town.specs.Histories.{town}
use Rattle.fedi_town.specs.Towns.{id_of}
use Rattle.fedi_town.specs.declared.caller.Caller.TheVariants.{Actor}
use Rattle.fedi_world.specs.Posting.{IsPosted}
use Rattle.fedi_world.proofs.Causes.{err_memory}
use Rattle.fedi_world.proofs.Saying.{postable}
use Rattle.fedi_world.proofs.asking.post_by.Goals as goal

pub returns-in_default-clause-posted : goal.returns-in_default-clause-posted
returns-in_default-clause-posted g c =
    let none : id_of (town c.args.seat.now.core.history) c.args.name ≡ None = ap (λ t. id_of t c.args.name) (sym c.facts.ensures.town) ∙ sym c.in_default.ensures in
    (none, record { history = refl; log = refl; end = refl })

pub returns-in_err-post-clause-posted : goal.returns-in_err-post-clause-posted
returns-in_err-post-clause-posted g c =
    let known : id_of (town c.args.seat.now.core.history) c.args.name ≡ Some c.in-Some.author.now = ap (λ t. id_of t c.args.name) (sym c.facts.ensures.town) ∙ sym c.in-Some.ensures in
    subst (λ r. IsPosted g.P.Keeper c.args.name c.args.body.now c.args.moment c.args.seat.now c.args.seat.now r)
    (sym (err_memory c.from_residual.result c.from_residual.ensures.0 c.from_residual.ensures.1))
    (ap (λ o. is_some o) known, record { history = refl; log = refl; end = refl })

pub ask-requires : goal.ask-requires
ask-requires g c =
    let known : id_of (town c.args.seat.now.core.history) c.args.name ≡ Some c.in-Some.author.now = ap (λ t. id_of t c.args.name) (sym c.facts.ensures.town) ∙ sym c.in-Some.ensures in
    record { postable = postable c.args.seat.now.core.history c.args.name c.in-Some.author.now c.args.body.now c.in_ok-post.post c.facts.ensures.legal c.show.ensures.hosted known c.in_ok-post.ensures.read }

pub returns-in_err-given-clause-posted : goal.returns-in_err-given-clause-posted
returns-in_err-given-clause-posted g c =
    let known : id_of (town c.args.seat.now.core.history) c.args.name ≡ Some c.in-Some.author.now = ap (λ t. id_of t c.args.name) (sym c.facts.ensures.town) ∙ sym c.in-Some.ensures in
    subst (λ r. IsPosted g.P.Keeper c.args.name c.args.body.now c.args.moment c.args.seat.now c.ask.new.self r)
    (sym (err_memory c.from_residual-in_err-given.result c.from_residual-in_err-given.ensures.0 c.from_residual-in_err-given.ensures.1))
    (ap (λ o. is_some o) known, c.in_err-given.ensures.lacking)

pub returns-clause-posted : goal.returns-clause-posted
returns-clause-posted g c =
    let known : id_of (town c.args.seat.now.core.history) c.args.name ≡ Some c.in-Some.author.now = ap (λ t. id_of t c.args.name) (sym c.facts.ensures.town) ∙ sym c.in-Some.ensures in
    let t = town c.args.seat.now.core.history in (
      c.in-Some.author.now,
      c.in_ok-post.post,
      known,
      c.in_ok-post.ensures,
      subst (λ n. IsGiven {P = g.row.P.Denot} g.P.Keeper (reply t (Actor n) (Outbox c.args.name c.in_ok-post.post)) (entry_of t (Actor n) (Outbox c.args.name c.in_ok-post.post) c.args.moment)
          c.in_ok-given.given c.args.seat.now c.ask.new.self) c.copy.ensures c.in_ok-given.ensures.given,
    )
