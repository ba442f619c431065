use Rattle.std.proofs.Common.{ap, ◌∙◌}
use Rattle.std.specs.Prelude.{is_some}
use Rattle.fedi_town.specs.Objects.{makes}
use Rattle.fedi_register.proofs.Found.{some_copied, some_found}
use Rattle.fedi_effects.proofs.states.is_made.Goals as goal

pub returns : goal.returns
returns c =
    c.is_some.ensures ∙ some_copied c.maker.result ∙ ap is_some c.maker.ensures
    ∙ some_found (makes c.args.id.now) c.args.facts.now.town.acts
