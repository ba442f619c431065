use Rattle.std.proofs.Common.{ap, ◌∙◌}
use Rattle.std.specs.Prelude.{is_some}
use Rattle.fedi_register.proofs.Found.{some_copied, some_found}
use Rattle.fedi_town.specs.Relations.{is_actor}
use Rattle.fedi_town.specs.Towns.{has_id}
use Rattle.fedi_effects.proofs.facts.Facts.is_actor.Goals as goal

pub returns : goal.returns
unfolding is_actor
returns c =
    rw (← c.self.view_is)
    (c.is_some.ensures ∙ some_copied c.of_id.result ∙ ap is_some c.of_id.ensures ∙ some_found (has_id c.args.iri.now) c.self.inside.actors.actors)
