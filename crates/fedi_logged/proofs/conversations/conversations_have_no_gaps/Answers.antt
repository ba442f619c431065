use Rattle.fedi_logged.proofs.Talks.{no_gaps}
use Rattle.fedi_logged.proofs.conversations.conversations_have_no_gaps.Goals as goal

pub returns : goal.returns
returns c = no_gaps
