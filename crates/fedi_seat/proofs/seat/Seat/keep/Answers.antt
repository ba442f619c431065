use Rattle.std.proofs.Common.{None, ap, refl}
use Rattle.fedi_log.specs.declared.items.What.TheVariants.{Entered}
use Rattle.fedi_logged.proofs.Noting.{entered}
use Rattle.fedi_seat.proofs.Seating.{seat_kept}
use Rattle.fedi_seat.proofs.seat.Seat.keep.Goals as goal

pub invariant_of-self : goal.invariant_of-self
invariant_of-self g c =
    let log = entered c.self.inside.opened.value.history c.self.inside.noted c.push.new.self _ _ c.args.entry None c.push.ensures refl refl (ap Entered c.of-made.ensures) in
    seat_kept c.self.inside.core.history c.keep.new.self.history c.args.entry None c.self.inside.core.rows c.keep.new.self.rows _ _ c.in-Ok.ensures.keeps.kept.history c.in-Ok.ensures.queue
    c.requires.untried c.in-Ok.ensures.keeps.claims c.in-Ok.ensures.keeps.legal log c.self.invariant
