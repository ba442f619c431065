use Rattle.std.proofs.Common.{rules, ap, ◌∙◌, ◌&&◌}
use Rattle.std.specs.Prelude.{is_some}
use Rattle.fedi_town.specs.Relations.{has_activity_id}
use Rattle.fedi_register.proofs.Found.{some_copied, some_found}
use Rattle.fedi_inbound.specs.Verdicts.{is_recipient}
use Rattle.fedi_inbound.proofs.judging.goes_to.Goals as goal

pub returns : goal.returns
returns c =
    let id = c.args.id.now in
    let owner = c.args.owner.now in
    c.is_some.ensures ∙ some_copied c.first_by_id.result
    ∙ ap is_some (c.first_by_id.ensures (is_recipient owner) (search rules))
    ∙ some_found (λ x. has_activity_id id x && is_recipient owner x) c.args.facts.now.town.acts
