use Rattle.fedi_log.proofs.LifeLemmas.{records_stay}
use Rattle.fedi_log.proofs.lives.kept_records_stay.Goals as goal

pub returns : goal.returns
returns c = records_stay
