use Rattle.std.proofs.Common.{◌≡◌, bytes_eq, find, take, None}
use Rattle.fedi_objects.specs.Kinds.{kind_name}
use Rattle.fedi_reading.proofs.properties.named_among.Given as goal

abbrev pub invariant-loop-kind : goal.invariant-loop-kind
invariant-loop-kind l = find (λ kind. bytes_eq (kind_name kind) l.text) (take l.kind-index l.kinds) ≡ None
