use Rattle.std.proofs.Common.{map, take}
use Rattle.fedi_objects.specs.Forms.{tag_form}
use Rattle.fedi_objects.specs.Writing.{Adds}
use Rattle.fedi_objects.proofs.Additions.{values_tokens}
use Rattle.fedi_objects.proofs.writing.write_tags.Given as goal

abbrev pub invariant-loop-tag : goal.invariant-loop-tag
invariant-loop-tag l = Adds (values_tokens (map tag_form (take l.tag-index l.tags))) l.initial.out l.out
