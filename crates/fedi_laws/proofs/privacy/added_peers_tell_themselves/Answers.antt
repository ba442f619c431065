use Rattle.fedi_laws.proofs.Beside.{peers_alone}
use Rattle.fedi_laws.proofs.privacy.added_peers_tell_themselves.Goals as goal

pub returns : goal.returns
returns c = peers_alone
