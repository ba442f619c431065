use Rattle.std.proofs.Common.{◌∙◌, ap}
use Rattle.fedi_seat.proofs.Seating.{seat_opened}
use Rattle.fedi_seat.proofs.seat.Seat.of.Goals as goal

pub invariant_of-result : goal.invariant_of-result
invariant_of-result g c =
    seat_opened c.args.core.history c.of-opened.result.value.history c.args.core.rows c.new.result
    c.new.ensures (ap (λ f. f.history) c.of-opened.ensures ∙ c.facts.ensures.history)
    c.requires.unclaimed c.facts.ensures.legal c.requires.hosted
