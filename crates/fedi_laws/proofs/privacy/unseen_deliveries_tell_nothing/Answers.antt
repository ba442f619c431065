use Rattle.fedi_laws.proofs.Isolation.{unseen_deliveries}
use Rattle.fedi_laws.proofs.privacy.unseen_deliveries_tell_nothing.Goals as goal

pub returns : goal.returns
returns c = unseen_deliveries
