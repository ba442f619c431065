use Rattle.fedi_logged.proofs.Talks.{own_of_conversation}
use Rattle.fedi_logged.proofs.conversations.conversations_own_their_items.Goals as goal

pub returns : goal.returns
returns c = own_of_conversation
