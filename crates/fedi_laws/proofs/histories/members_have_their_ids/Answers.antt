use Rattle.fedi_town.proofs.Naming.{members_have_ids}
use Rattle.fedi_laws.proofs.histories.members_have_their_ids.Goals as goal

pub returns : goal.returns
returns c = members_have_ids
