use Rattle.fedi_demo.proofs.OneDemo.{one_demo}
use Rattle.fedi_demo.proofs.laws.demonstrations_are_determined.Goals as goal

pub returns : goal.returns
returns c = one_demo
