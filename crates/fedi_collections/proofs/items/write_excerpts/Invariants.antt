use Rattle.std.proofs.Common.{map, take}
use Rattle.fedi_objects.proofs.Additions.{values_tokens}
use Rattle.fedi_objects.specs.Writing.{Adds}
use Rattle.fedi_collections.specs.Items.{excerpt_form}
use Rattle.fedi_collections.proofs.items.write_excerpts.Given as goal

abbrev pub invariant-loop-excerpt : goal.invariant-loop-excerpt
invariant-loop-excerpt l = Adds (values_tokens (map excerpt_form (take l.excerpt-index l.excerpts))) l.initial.out l.out
