use Rattle.std.proofs.Common.{◌≡◌, ◌≢◌, ℕ, ◌<◌, Some}
use Rattle.std.specs.Prelude.{slice_get}
use Rattle.fedi_logged.specs.Logs.{MachineLog}
use Rattle.fedi_town.specs.Histories.{town}
use Rattle.fedi_world.proofs.asking.seat_at.Given as goal

abbrev pub invariant-loop-number : goal.invariant-loop-number
invariant-loop-number g l =
    (k : ℕ) (m : MachineLog g.row.P.Denot) → k < l.number → slice_get l.seats k ≡ Some m → (town m.core.history).host ≢ Some l.host
