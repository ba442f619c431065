-- What a worker does in the turns of its door and over its link.
use Rattle.std.specs.Prelude.{◌≡◌, ℕ, Bool, false, true, List, [], ◌∷◌, ◌++◌, Option, None, IfSome}
use Rattle.std.specs.Prelude.{option_map}
use Rattle.fedi_log.specs.Log.{Goes, Log}
use Rattle.fedi_delivery.specs.Exchanges.{Told}
use Rattle.fedi_logged.specs.Attempts.{Exchange, HasExchanged}
use Rattle.fedi_outside.specs.Causes.{next_count}
use Rattle.fedi_outside.specs.Doors.{Coming, Rested, Row, Served, Spoken}
use Rattle.fedi_logged.specs.Conversations.{Setting}
use Rattle.fedi_logged.specs.Endings.{IsCaused, Output, Serves, faults_of, scene_of}
use Rattle.fedi_logged.specs.declared.sessions.SessionEnd.{SessionEnd}
use Rattle.fedi_logged.specs.Delivering.{IsStep, rest_of}
use Rattle.fedi_logged.specs.declared.delivering.Step.{Step}
use Rattle.fedi_hall.specs.declared.workers.WorkerEnd.{WorkerEnd}
use Rattle.fedi_hall.specs.declared.workers.WorkerEnd.TheVariants.{Closed, DoorFault}

-- ---- one row

-- the output of a line at its arrival: no write had failed
abbrev pub output_of : Coming → Output
output_of came = record { sent = came.begun; faults = 0 }

-- the output of a line that was returned
abbrev pub output_after : Spoken → Output
output_after row = record { sent = row.sent; faults = row.writes }

-- The line of this row was one connection, from what was seen of the log before to what was seen
-- after. Nothing was sent on it before, and its own counts show the cause of its end. If its input
-- is known, what was read and written is one conversation over that log.
pub record IsServed (w : Setting) (seen now : Log) (row : Spoken) : Type 0 where
  pub fresh : IfSome row.came.begun (λ (text : List ℕ). text ≡ [])
  pub ending : SessionEnd
  pub caused : IsCaused (faults_of 0 0) (faults_of row.reads row.writes) ending
  pub serves : IfSome row.came.input
      (Serves w seen (output_of row.came) (scene_of row.left (output_after row)) now ending)

-- What a row reports, from what was seen of the log before to what was seen after, with these
-- exchanges over the link: a line was served and nothing was asked of the link, or no line was
-- waiting and one step of delivery was made.
abbrev pub IsWorkOf : Setting → Log → Log → List Exchange → Row → Type 0
IsWorkOf w seen now exchanges (Served row) = (exchanges ≡ []) × IsServed w seen now row
IsWorkOf w seen now exchanges (Rested rest) =
    (step : Step) × (rest ≡ rest_of step) × IsStep w seen now exchanges step

-- ---- rows, one after another

-- each row is over a log that extends what was seen after the one before it, and has the exchanges
-- that follow
abbrev pub Works : Setting → Log → Log → List Exchange → List Row → Type 0
Works w seen now exchanges [] = (exchanges ≡ []) × Goes w.by seen now
Works w seen now exchanges (row ∷ rows) =
    (start : Log) × (next : Log) × (own : List Exchange) × (others : List Exchange)
    × (exchanges ≡ own ++ others)
    × Goes w.by seen start × IsWorkOf w start next own row × Works w next now others rows

-- the rows that were added to those of the door, if they are known, and the exchanges of the link
-- are those of this work
pub record HasWorked (w : Setting) (seen now : Log) (before after : Option (List Row))
    (asked heard : Told) : Type 0 where
  pub rows : List Row
  pub exchanges : List Exchange
  pub added : after ≡ option_map (λ (rs : List Row). rs ++ rows) before
  pub exchanged : HasExchanged asked heard exchanges
  pub works : Works w seen now exchanges rows

-- ---- the door of a worker

-- no line is out, and no rest has to be reported
abbrev pub IsWaiting : {W : Type 0} → (W → Option Coming) → (W → Bool) → W → Type 0
IsWaiting out idle door = (out door ≡ None) × (idle door ≡ false)

-- how a worker ended: its door is closed and did not fail, or it failed once
abbrev pub EndsWork : Bool → ℕ → ℕ → WorkerEnd → Type 0
EndsWork closed before now Closed = (closed ≡ true) × (now ≡ before)
EndsWork closed before now DoorFault = now ≡ next_count before

-- how two workers ended: the door of one failed, or both closed
abbrev pub both : WorkerEnd → WorkerEnd → WorkerEnd
both Closed other = other
both DoorFault other = DoorFault
