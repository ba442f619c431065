-- What is left after all workers over one machine have ended.
use Rattle.std.specs.Prelude.{◌≡◌, ◌<◌, ℕ, Bool, true, List, ◌++◌, All, length, slice_index_or}
use Rattle.std.specs.Prelude.{Option, Some}
use Rattle.fedi_log.specs.Keeping.{State}
use Rattle.fedi_log.specs.Log.{Log, given}
use Rattle.fedi_log.specs.declared.items.Item.{Item}
use Rattle.fedi_logged.specs.Logs.{StandsFor}
use Rattle.fedi_delivery.specs.Exchanges.{Told}
use Rattle.fedi_outside.specs.Causes.{next_count}
use Rattle.fedi_outside.specs.Doors.{Row}
use Rattle.fedi_outside.specs.Keepers.{Crashes}
use Rattle.fedi_outside.specs.declared.doors.Bench.{Bench}
use Rattle.fedi_logged.specs.Turning.{setting_by}
use Rattle.fedi_hall.specs.Works.{HasWorked}
use Rattle.fedi_hall.specs.declared.serving.ServeEnd.{ServeEnd}
use Rattle.fedi_hall.specs.declared.serving.ServeEnd.TheVariants.{Closed, DoorFault, Memory}
use Rattle.fedi_hall.specs.declared.workers.WorkerEnd.{WorkerEnd}
use Rattle.fedi_hall.specs.declared.workers.WorkerEnd.TheVariants as workers

-- each item after what was seen names one of this many workers
pub record NamesWorkers (count : ℕ) (seen log : Log) : Type 0 where
  pub past : Log
  pub is : log ≡ seen ++ past
  pub named : All (λ (i : Item). (n : ℕ) × (n < count) × (i.pass ≡ Some n)) past

-- There is one log, which begins with the history of the opening, and the machine holds it. Each
-- item after that history names one worker, and what the worker of each bench did is over this log,
-- from that history on.
pub record ServesAll {W K : Type 0} (growth room : ℕ → ℕ) (told : Option ℕ) (opened : State)
    (first : Crashes) (closed : State) (crashes : Crashes)
    (served : W → Option (List Row)) (tells : K → Told)
    (before after : List (Bench W K)) : Type 0 where
  pub log : Log
  pub stands : StandsFor growth room opened first closed crashes log
  pub named : NamesWorkers (length before) (given opened.history) log
  pub same : length after ≡ length before
  pub each : (k : ℕ) (b : Bench W K) → k < length before
      → HasWorked (setting_by growth room told (Some k) opened) (given opened.history) log
      (served (slice_index_or before k b).door) (served (slice_index_or after k b).door)
      (tells (slice_index_or before k b).link) (tells (slice_index_or after k b).link)

-- the door of some bench failed once more
pub record HasFailedDoor {W K : Type 0} (faults : W → ℕ)
    (before after : List (Bench W K)) : Type 0 where
  pub place : ℕ
  pub within : place < length before
  pub rose : (b : Bench W K) → faults (slice_index_or after place b).door
      ≡ next_count (faults (slice_index_or before place b).door)

-- How the serving ended: all doors are closed; or the door of some bench failed; or memory ran out,
-- and no door was asked.
abbrev pub EndsServing : {W K : Type 0} → (W → Bool) → (W → ℕ) → List (Bench W K) → List (Bench W K)
    → ServeEnd → Type 0
EndsServing {W} {K} closed faults before after Closed =
    All (λ (b : Bench W K). closed b.door ≡ true) after
EndsServing closed faults before after DoorFault = HasFailedDoor faults before after
EndsServing closed faults before after Memory = after ≡ before

-- how the serving ended, given how the workers ended
abbrev pub end_by : WorkerEnd → ServeEnd
end_by workers.Closed = Closed
end_by workers.DoorFault = DoorFault
