use Rattle.fedi_logged.proofs.Talks.{conversation_stays}
use Rattle.fedi_logged.proofs.conversations.conversations_stay.Goals as goal

pub returns : goal.returns
returns c = conversation_stays
