use Rattle.std.proofs.Common.{bytes_eq, sym}
use Rattle.fedi_objects.specs.Kinds.{kind_name}
use Rattle.fedi_objects.specs.declared.kind.Kind.TheVariants.{Accept}
use Rattle.fedi_reading.proofs.ReadingLemmas.{find_past, find_here}
use Rattle.fedi_reading.proofs.properties.named_among.Goals as goal

pub returns-then-eq : goal.returns-then-eq
returns-then-eq c =
    sym (find_here (λ kind. bytes_eq (kind_name kind) c.args.text.now) c.args.kinds.now c.loop-kind.kind-index Accept c.loop-kind-test.true c.loop-kind.invariant (cc))

pub loop-kind-preserved : goal.loop-kind-preserved
loop-kind-preserved c =
    find_past (λ kind. bytes_eq (kind_name kind) c.args.text.now) c.args.kinds.now c.loop-kind.kind-index Accept c.loop-kind-test.true c.loop-kind.invariant (cc)
