-- Workers side by side, each at a station.
use Rattle.std.specs.Prelude.{◌≡◌, ℕ, Bool, List, Option, Some}
use Rattle.std.specs.List.{fold}
use Rattle.fedi_log.specs.Keeping.{State}
use Rattle.fedi_log.specs.Log.{Log}
use Rattle.fedi_log.specs.declared.items.Item.{Item}
use Rattle.fedi_delivery.specs.Exchanges.{Told}
use Rattle.fedi_outside.specs.Doors.{Coming, Row}
use Rattle.fedi_outside.specs.declared.doors.Bench.{Bench}
use Rattle.fedi_logged.specs.Turning.{setting_by}
use Rattle.fedi_turn.specs.declared.lock.Pass.{Pass}
use Rattle.fedi_turn.specs.declared.lock.TurnLock.{TurnLock}
use Rattle.fedi_turn.specs.Turn.{number_of, seen_of}
use Rattle.fedi_hall.specs.Locks.{IsIdleBy}
use Rattle.fedi_hall.specs.Works.{EndsWork, HasWorked, IsWaiting, both}
use Rattle.fedi_hall.specs.declared.stations.Station.{Station}
use Rattle.fedi_hall.specs.declared.workers.WorkerEnd.{WorkerEnd}
use Rattle.fedi_hall.specs.declared.workers.WorkerEnd.TheVariants.{Closed}

-- the pass of a station
abbrev pub pass_of : {W K : Type 0} → Station W K → Pass Item
pass_of s = s.pass

-- its bench
abbrev pub bench_of : {W K : Type 0} → Station W K → Bench W K
bench_of s = s.bench

-- how its worker ended
abbrev pub end_of : {W K : Type 0} → Station W K → WorkerEnd
end_of s = s.end

-- how these workers ended: the door of one failed, or all closed
abbrev pub ends_of : List WorkerEnd → WorkerEnd
ends_of ends = fold both Closed ends

-- a worker may begin at the station: its pass is idle, and its door is ready to be asked
abbrev pub IsReady : {V W K : Type 0} → (V → Log) → (W → Option Coming) → (W → Bool)
    → TurnLock V Item → Station W K → Type 0
IsReady log out idle lock s = IsIdleBy log lock s.pass × IsWaiting out idle s.bench.door

-- what a worker did at a station, over a machine that was opened in this state
pub record IsLabor
    {W K : Type 0} (growth room : ℕ → ℕ) (told : Option ℕ) (opened : State)
    (served : W → Option (List Row)) (tells : K → Told) (closed : W → Bool) (faults : W → ℕ)
    (s t : Station W K) : Type 0 where
  pub same : number_of t.pass ≡ number_of s.pass
  pub worked : HasWorked (setting_by growth room told (Some (number_of s.pass)) opened)
      (seen_of s.pass) (seen_of t.pass)
      (served s.bench.door) (served t.bench.door) (tells s.bench.link) (tells t.bench.link)
  pub ends : EndsWork (closed t.bench.door) (faults s.bench.door) (faults t.bench.door) t.end
