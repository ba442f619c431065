use Rattle.fedi_opening.proofs.Answers.{damaged_once, read_once, read_or_damaged}
use Rattle.fedi_opening.proofs.laws.records_have_one_answer.Goals as goal

pub returns-clause-opened : goal.returns-clause-opened
returns-clause-opened c = read_once

pub returns-clause-damaged : goal.returns-clause-damaged
returns-clause-damaged c = damaged_once

pub returns-clause-either : goal.returns-clause-either
returns-clause-either c = read_or_damaged
