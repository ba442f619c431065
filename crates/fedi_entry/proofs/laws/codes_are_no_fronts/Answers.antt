use Rattle.fedi_entry.proofs.ReadEntries.{code_is_no_front}
use Rattle.fedi_entry.proofs.laws.codes_are_no_fronts.Goals as goal

pub returns : goal.returns
returns c = code_is_no_front
