use Rattle.std.proofs.Common.{ap, ◌∙◌}
use Rattle.std.specs.Prelude.{is_some}
use Rattle.fedi_effects.proofs.FirstPlaces.{first_is_among}
use Rattle.fedi_effects.proofs.addressing.position_of.Goals as goal

pub returns-clause-among : goal.returns-clause-among
returns-clause-among c = ap is_some c.first_place.ensures ∙ first_is_among c.args.iri.now c.args.found.now
