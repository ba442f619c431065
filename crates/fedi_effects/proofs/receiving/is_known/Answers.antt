use Rattle.std.proofs.Common.{ap, ◌∙◌}
use Rattle.std.specs.Prelude.{is_some}
use Rattle.fedi_town.specs.Relations.{has_activity_id}
use Rattle.fedi_register.proofs.Found.{some_copied, some_found}
use Rattle.fedi_effects.proofs.receiving.is_known.Goals as goal

pub returns : goal.returns
returns c =
    c.is_some.ensures ∙ some_copied c.activity_of.result ∙ ap is_some c.activity_of.ensures
    ∙ some_found (has_activity_id c.args.id.now) c.args.facts.now.town.acts
