use Rattle.std.proofs.Common.{◌≡◌, take}
use Rattle.std.specs.List.{fold}
use Rattle.fedi_address.specs.Recipients.{add_new}
use Rattle.fedi_address.proofs.recipients.add_each.Given as goal

abbrev pub invariant-loop-iri : goal.invariant-loop-iri
invariant-loop-iri l = l.kept ≡ fold add_new l.fn.kept (take l.iri-index l.iris)
