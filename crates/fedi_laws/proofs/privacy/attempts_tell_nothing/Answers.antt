use Rattle.fedi_laws.proofs.Beside.{attempts_untold}
use Rattle.fedi_laws.proofs.privacy.attempts_tell_nothing.Goals as goal

pub returns : goal.returns
returns c = attempts_untold
