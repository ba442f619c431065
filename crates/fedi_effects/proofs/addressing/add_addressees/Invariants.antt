use Rattle.std.proofs.Common.{◌≡◌, take}
use Rattle.std.specs.List.{fold}
use Rattle.fedi_effects.specs.Gathering.{with_addressees}
use Rattle.fedi_effects.proofs.addressing.add_addressees.Given as goal

abbrev pub invariant-loop-iri : goal.invariant-loop-iri
invariant-loop-iri l = l.found.items ≡ fold (with_addressees l.facts.town l.author) l.fn.found.items (take l.iri-index l.iris)
