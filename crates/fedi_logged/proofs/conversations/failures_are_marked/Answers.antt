use Rattle.fedi_logged.proofs.Talks.{failures_marked}
use Rattle.fedi_logged.proofs.conversations.failures_are_marked.Goals as goal

pub returns : goal.returns
returns c = failures_marked
