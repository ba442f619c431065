use Rattle.fedi_program.proofs.WorkLemmas.{adds_others}
use Rattle.fedi_program.proofs.places.on_disk.Goals as goal

pub returns-in-Init-clause-does : goal.returns-in-Init-clause-does
returns-in-Init-clause-does g c = rw c.in-Init.is (c.begin_store.ensures.made, c.begin_store.ensures.stays)

pub work_on_disk-requires-clause-adds : goal.work_on_disk-requires-clause-adds
work_on_disk-requires-clause-adds g c = adds_others c.args.command c.requires.store c.in_default.not-Init c.in_default.not-Export c.in_default.not-Check
