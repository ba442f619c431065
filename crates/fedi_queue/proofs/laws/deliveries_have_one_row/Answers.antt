use Rattle.fedi_queue.proofs.Queued.{one_row}
use Rattle.fedi_queue.proofs.laws.deliveries_have_one_row.Goals as goal

pub returns : goal.returns
returns c = one_row
