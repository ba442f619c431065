use Rattle.fedi_script.proofs.RowLemmas as rows
use Rattle.fedi_script.proofs.laws.scripts_are_read.Goals as goal

pub returns : goal.returns
returns c = rows.scripts_are_read
