-- What a run does that serves the connections of many doors and delivers.
use Rattle.std.specs.Prelude.{◌≡◌, ◌⊎◌, ◌<◌, ℕ, All, List, length, slice_index_or, Option, Some}
use Rattle.fedi_hall.specs.Serving.{EndsServing, NamesWorkers}
use Rattle.fedi_hall.specs.Works.{HasWorked, IsWaiting}
use Rattle.fedi_hall.specs.declared.serving.ServeEnd.{ServeEnd}
use Rattle.fedi_hall.specs.declared.serving.ServeEnd.TheVariants.{Closed, DoorFault, Memory}
use Rattle.fedi_log.specs.Keeping.{State}
use Rattle.fedi_log.specs.Log.{Log, given}
use Rattle.fedi_outside.specs.declared.doors.Bench.{Bench}
use Rattle.fedi_outside.specs.declared.doors.Door.{Ghosts as DoorGhosts}
use Rattle.fedi_outside.specs.declared.links.Link.{Ghosts as LinkGhosts}
use Rattle.fedi_startup.specs.Surviving.{growth, room}
use Rattle.fedi_startup.specs.declared.faults.StoreFault.{StoreFault}
use Rattle.fedi_logged.specs.Turning.{setting_by}
use Rattle.fedi_program.specs.Stores.{IsRefused, IsServed, status_by}
use Rattle.fedi_program.specs.Seen.{Medium, tells}

-- the status of each end of the serving
abbrev pub status_after : ServeEnd → ℕ
status_after Closed = 0
status_after DoorFault = 11
status_after Memory = 12

-- Each item after the history of the opening names one worker, and each bench has one worker. What
-- each of them did at the connections of its door, and what it asked and heard over its link, is
-- over this log.
pub record AreServed
    {W L K : Type 0} (doors : DoorGhosts W L) (links : LinkGhosts K) (told : Option ℕ)
    (opened : State) (log : Log) (before after : List (Bench W K)) : Type 0 where
  pub named : NamesWorkers (length before) (given opened.history) log
  pub same : length after ≡ length before
  pub each : (k : ℕ) (b : Bench W K) → k < length before
      → HasWorked (setting_by growth room told (Some k) opened) (given opened.history) log
      (doors.served (slice_index_or before k b).door) (doors.served (slice_index_or after k b).door)
      (tells links (slice_index_or before k b).link) (tells links (slice_index_or after k b).link)

-- How a run serves the connections of the doors of these benches over the store of a disk: the
-- store is not opened, and no door or link is asked; or it is opened, and all workers work over one
-- log, until each door closes or one fails, or there is no memory for them.
abbrev pub ServesDoors :
    {W L K : Type 0} → DoorGhosts W L → LinkGhosts K → Option ℕ → Medium → Medium
    → List (Bench W K) → List (Bench W K) → ℕ → Type 0
ServesDoors doors links told before after first now status =
    ((fault : StoreFault) × IsRefused before after fault × (now ≡ first)
    × (status ≡ status_by fault))
    ⊎ ((opened : State) × (last : State) × (log : Log) × IsServed before after opened last log
    × AreServed doors links told opened log first now
    × ((ending : ServeEnd) × (status ≡ status_after ending)
    × EndsServing doors.closed doors.faults first now ending))

-- each line that a door of these benches gave has come back to it, and each step that was made
-- while no connection waited was reported to it
abbrev pub AreWaiting : {W L K : Type 0} → DoorGhosts W L → List (Bench W K) → Type 0
AreWaiting doors benches = All (λ b. IsWaiting doors.out doors.idle b.door) benches
