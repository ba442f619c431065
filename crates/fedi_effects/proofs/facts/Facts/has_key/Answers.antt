use Rattle.std.proofs.Common.{ap, ◌∙◌}
use Rattle.std.specs.Prelude.{List, is_some}
use Rattle.std.specs.List.{list_any}
use Rattle.fedi_register.proofs.Found.{some_copied, some_found}
use Rattle.fedi_town.specs.declared.act.Actor.{Actor}
use Rattle.fedi_town.specs.Towns.{has_digest}
use Rattle.fedi_effects.proofs.facts.Facts.has_key.Goals as goal

pub returns : goal.returns
returns c =
    let test = has_digest c.args.digest.now in
    c.is_some.ensures ∙ some_copied c.with_digest.result ∙ ap is_some c.with_digest.ensures ∙ some_found test c.members.result.now.actors
    ∙ ap (λ (actors : List Actor). list_any test actors) c.members.ensures
