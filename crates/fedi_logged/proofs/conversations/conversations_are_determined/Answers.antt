use Rattle.fedi_logged.proofs.Determined.{one_conversation}
use Rattle.fedi_logged.proofs.conversations.conversations_are_determined.Goals as goal

pub returns : goal.returns
returns c = one_conversation
