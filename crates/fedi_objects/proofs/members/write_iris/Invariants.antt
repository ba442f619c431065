use Rattle.std.proofs.Common.{map, take}
use Rattle.serde_json.specs.Data.{string}
use Rattle.fedi_objects.specs.Writing.{Adds}
use Rattle.fedi_objects.proofs.Additions.{values_tokens}
use Rattle.fedi_objects.proofs.members.write_iris.Given as goal

abbrev pub invariant-loop-iri : goal.invariant-loop-iri
invariant-loop-iri l = Adds (values_tokens (map string (take l.iri-index l.iris))) l.initial.out l.out
