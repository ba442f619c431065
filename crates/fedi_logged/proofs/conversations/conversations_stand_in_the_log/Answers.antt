use Rattle.fedi_logged.proofs.Talks.{at_fronts, stand_apart}
use Rattle.fedi_logged.proofs.conversations.conversations_stand_in_the_log.Goals as goal

pub returns-clause-fronts : goal.returns-clause-fronts
returns-clause-fronts c = at_fronts

pub returns-clause-apart : goal.returns-clause-apart
returns-clause-apart c = stand_apart
