use Rattle.fedi_town.proofs.MadeOnce.{made_once}
use Rattle.fedi_laws.proofs.objects.objects_are_made_once.Goals as goal

pub returns : goal.returns
returns c = made_once
