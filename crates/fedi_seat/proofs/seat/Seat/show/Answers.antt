use Rattle.std.proofs.Common.{subst}
use Rattle.fedi_seat.specs.Seats.{IsSeat}
use Rattle.fedi_seat.proofs.seat.Seat.show.Goals as goal

pub returns : goal.returns
returns g c = subst (λ m. IsSeat m.core.history m.core.rows m.log) c.self.view_is c.self.invariant
