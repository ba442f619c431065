use Rattle.fedi_startup.proofs.OneAnswer.{store_other}
use Rattle.fedi_startup.proofs.laws.stores_are_not_made_anew.Goals as goal

pub returns : goal.returns
returns c = store_other
