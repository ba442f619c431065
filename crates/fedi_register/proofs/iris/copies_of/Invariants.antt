use Rattle.std.proofs.Common.{◌≡◌, take}
use Rattle.fedi_register.proofs.iris.copies_of.Given as goal

abbrev pub invariant-loop-iri : goal.invariant-loop-iri
invariant-loop-iri l = l.copies.items ≡ take l.iri-index l.iris
