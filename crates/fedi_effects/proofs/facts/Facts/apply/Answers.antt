use Rattle.fedi_effects.specs.Holdings.{town_in}
use Rattle.fedi_effects.proofs.Towns.{town_made_once}
use Rattle.fedi_effects.proofs.facts.Facts.apply.Goals as goal

pub add-requires-clause-once : goal.add-requires-clause-once
add-requires-clause-once c = town_made_once (town_in c.self.inside) c.self.inside.history c.self.invariant.0
