use Rattle.fedi_http.proofs.ArrivalLemmas.{one_arrival}
use Rattle.fedi_http.proofs.arrivals.arrivals_are_determined.Goals as goal

pub returns : goal.returns
returns c = one_arrival
