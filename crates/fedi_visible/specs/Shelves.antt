-- What a shelf holds.
use Rattle.std.specs.Prelude.{[], None}
use Rattle.fedi_town.specs.Towns.{empty_town}
use Rattle.fedi_effects.specs.Holdings.{Holding}

-- no history yet, and no room
abbrev pub empty_holding : Holding
empty_holding = record { history = []; town = empty_town; room = None }
