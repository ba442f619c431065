use Rattle.std.proofs.Common.{ap, rules, ◌∙◌}
use Rattle.std.specs.Prelude.{◌&&◌, is_some}
use Rattle.fedi_town.specs.Queues.{is_due_in}
use Rattle.fedi_town.specs.Relations.{has_activity_id}
use Rattle.fedi_register.proofs.Found.{some_copied, some_found}
use Rattle.fedi_effects.proofs.Standings.{due_of_id}
use Rattle.fedi_effects.proofs.deliveries.judge_tried.Goals as goal

pub returns : goal.returns
returns c =
    let town = c.args.facts.now.town in
    let id = c.args.id.now in
    let recipient = c.args.recipient.now in
    let moment = c.args.moment in
    c.is_some.ensures ∙ some_copied c.first_by_id.result
    ∙ ap is_some (c.first_by_id.ensures (is_due_in town id recipient moment) (search rules))
    ∙ some_found (λ x. has_activity_id id x && is_due_in town id recipient moment x) town.acts
    ∙ due_of_id town id recipient moment
