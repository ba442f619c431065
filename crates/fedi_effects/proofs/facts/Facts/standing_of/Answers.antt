use Rattle.std.proofs.Common.{◌∙◌}
use Rattle.fedi_effects.specs.Holdings.{town_in}
use Rattle.fedi_effects.proofs.Tallying.{town_progress}
use Rattle.fedi_effects.proofs.facts.Facts.standing_of.Goals as goal

pub returns-clause-value : goal.returns-clause-value
returns-clause-value c =
    rw (← c.self.view_is) (c.standing_of.ensures.value ∙ town_progress (town_in c.self.inside) c.args.id.now c.args.recipient.now c.args.moment)
