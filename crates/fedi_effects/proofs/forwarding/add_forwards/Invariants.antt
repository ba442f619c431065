use Rattle.std.proofs.Common.{◌≡◌, take}
use Rattle.std.specs.List.{fold}
use Rattle.fedi_effects.specs.Forwards.{with_forwards}
use Rattle.fedi_effects.proofs.forwarding.add_forwards.Given as goal

abbrev pub invariant-loop-iri : goal.invariant-loop-iri
invariant-loop-iri l = l.found.items ≡ fold (with_forwards l.facts.town l.author) l.fn.found.items (take l.iri-index l.iris)
