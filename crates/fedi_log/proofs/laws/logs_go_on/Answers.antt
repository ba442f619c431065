use Rattle.fedi_log.proofs.Growing.{goes_here, goes_more, goes_on}
use Rattle.fedi_log.proofs.laws.logs_go_on.Goals as goal

pub returns-clause-here : goal.returns-clause-here
returns-clause-here c = goes_here

pub returns-clause-on : goal.returns-clause-on
returns-clause-on c = goes_on

pub returns-clause-more : goal.returns-clause-more
returns-clause-more c = goes_more
