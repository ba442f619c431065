use Rattle.fedi_objects.specs.Writing.{context_of}
use Rattle.fedi_objects.proofs.writing.write_context.Goals as goal

pub returns-then-context : goal.returns-then-context
unfolding context_of
returns-then-context c = rw c.if-context.true c.write_str.ensures
