use Rattle.fedi_pins.specs.Held.{held_at}
use Rattle.fedi_pins.proofs.held.change_at.Goals as goal

pub returns-clause-held : goal.returns-clause-held
unfolding held_at
returns-clause-held g c = rw (← c.shown-act.ensures.act) c.change.ensures
