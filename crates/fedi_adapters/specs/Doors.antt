-- What doors on a listener give, and what is reported to them.
use Rattle.std.specs.Prelude.{◌≡◌, Bool, false, true, ⊤}
use Rattle.fedi_outside.specs.declared.turns.Rest.{Rest}
use Rattle.fedi_outside.specs.declared.turns.Rest.TheVariants.{Tried, Nothing, Lost}
use Rattle.fedi_outside.specs.declared.turns.Turn.{Turn}
use Rattle.fedi_outside.specs.declared.turns.Turn.TheVariants.{Line, Idle, Closed, Failed}
use Rattle.fedi_adapters.specs.declared.tcp_doors.Role.{Role}
use Rattle.fedi_adapters.specs.declared.tcp_doors.Role.TheVariants.{Serves, Delivers}

-- a door of this role may give this turn: only one that serves gives a line, only one that delivers
-- is idle, and none is ever closed
abbrev pub Fits : {L : Type 0} → Role → Turn L → Type 0
Fits role (Line l) = role ≡ Serves
Fits role Idle = role ≡ Delivers
Fits role Closed = ⊥
Fits role Failed = ⊤

-- what is reported is a delivery that was tried
abbrev pub is_tried : Rest → Bool
is_tried (Tried claimed) = true
is_tried (Nothing front moment) = false
is_tried Lost = false
