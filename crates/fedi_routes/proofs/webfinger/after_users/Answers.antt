use Rattle.std.proofs.Common.{List, ℕ, Option, codes, sym, ap, ◌∙◌}
use Rattle.std.specs.Option.{option_and_then}
use Rattle.fedi_model.specs.Webfinger.{after_front}
use Rattle.fedi_routes.proofs.WebfingerLemmas.{after_users}
use Rattle.fedi_routes.proofs.webfinger.after_users.Goals as goal

pub returns-in_err-rest : goal.returns-in_err-rest
returns-in_err-rest c =
    let host = c.args.host.now in
    rw c.from_residual.ensures
    (sym (after_users host c.args.iri.now
    ∙ ap (λ (o : Option (List ℕ)). option_and_then (after_front (codes "/users/")) (option_and_then (after_front host) o)) (sym c.in_err-rest.ensures)))

pub returns-in_err-path : goal.returns-in_err-path
returns-in_err-path c =
    let host = c.args.host.now in
    rw c.from_residual-in_err-path.ensures
    (sym (after_users host c.args.iri.now
    ∙ ap (λ (o : Option (List ℕ)). option_and_then (after_front (codes "/users/")) (option_and_then (after_front host) o)) (sym c.in_ok-rest.ensures)
    ∙ ap (option_and_then (after_front (codes "/users/"))) (sym c.in_err-path.ensures)))

pub returns : goal.returns
returns c =
    let host = c.args.host.now in
    c.after_front-3.ensures
    ∙ sym (after_users host c.args.iri.now
    ∙ ap (λ (o : Option (List ℕ)). option_and_then (after_front (codes "/users/")) (option_and_then (after_front host) o)) (sym c.in_ok-rest.ensures)
    ∙ ap (option_and_then (after_front (codes "/users/"))) (sym c.in_ok-path.ensures))
