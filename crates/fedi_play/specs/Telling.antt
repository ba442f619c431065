-- What is printed about what has happened in a world.
use Rattle.std.specs.Prelude.{ℕ, List}
use Rattle.fedi_script.specs.Printed.{answered_line, attempt_line, crashed_line, idle_line}
use Rattle.fedi_script.specs.Printed.{outcome_line, replied_line, request_line, waited_line}
use Rattle.fedi_town.specs.Queues.{outcome}
use Rattle.fedi_world.specs.declared.event.Happened.{Happened}
use Rattle.fedi_world.specs.declared.event.Happened.TheVariants.{Replied, Sent, Idle, Answered}
use Rattle.fedi_world.specs.declared.event.Happened.TheVariants.{Moved, Recorded, Crashed, Waited}

-- the line about it
abbrev pub happened_line : Happened → List ℕ
happened_line (Replied status location) = replied_line status location
happened_line (Sent attempt request) = attempt_line attempt request
happened_line Idle = idle_line
happened_line (Answered reply status) = answered_line reply status
happened_line (Moved request) = request_line request
happened_line (Recorded came) = outcome_line (outcome came)
happened_line Crashed = crashed_line
happened_line Waited = waited_line
