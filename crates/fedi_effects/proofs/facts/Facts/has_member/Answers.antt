use Rattle.std.proofs.Common.{ap, ◌∙◌}
use Rattle.std.specs.Prelude.{List, is_some}
use Rattle.std.specs.List.{list_any}
use Rattle.fedi_register.proofs.Found.{some_copied, some_found}
use Rattle.fedi_town.specs.declared.act.Actor.{Actor}
use Rattle.fedi_town.specs.Towns.{has_name}
use Rattle.fedi_effects.proofs.facts.Facts.has_member.Goals as goal

pub returns : goal.returns
returns c =
    let test = has_name c.args.name.now in
    c.is_some.ensures ∙ some_copied c.named.result ∙ ap is_some c.named.ensures ∙ some_found test c.members.result.now.actors
    ∙ ap (λ (actors : List Actor). list_any test actors) c.members.ensures
