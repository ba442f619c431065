use Rattle.fedi_laws.proofs.Isolation.{known_deliveries}
use Rattle.fedi_laws.proofs.privacy.added_inboxes_tell_their_owners.Goals as goal

pub returns : goal.returns
returns c = known_deliveries
