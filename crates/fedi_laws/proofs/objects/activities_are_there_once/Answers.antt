use Rattle.fedi_town.proofs.IdsTown.{town_ids}
use Rattle.fedi_laws.proofs.objects.activities_are_there_once.Goals as goal

pub returns : goal.returns
returns c = town_ids
