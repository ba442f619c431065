-- How a run may end, and what has then happened.
use Rattle.std.specs.Prelude.{◌≡◌, ◌⊎◌, ℕ, ◌==◌, List, [], IfSome, if◌then◌else◌}
use Rattle.fedi_log.specs.Keeping.{State}
use Rattle.fedi_log.specs.Log.{Log, given}
use Rattle.fedi_outside.specs.Causes.{next_count}
use Rattle.fedi_logged.specs.Conversations.{Setting}
use Rattle.fedi_logged.specs.Endings.{BreaksOff, Faults, Output, Scene, Serves, Talks, Writes}
use Rattle.fedi_logged.specs.declared.sessions.SessionEnd.{SessionEnd}
use Rattle.fedi_logged.specs.declared.sessions.SessionEnd.TheVariants.{End, CutShort, Closed}
use Rattle.fedi_logged.specs.declared.sessions.SessionEnd.TheVariants.{ReadFault, WriteFault}
use Rattle.fedi_logged.specs.declared.sessions.SessionEnd.TheVariants.{Memory}

-- the status of each end of a session
abbrev pub status_of : SessionEnd → ℕ
status_of End = 0
status_of Closed = 0
status_of CutShort = 8
status_of ReadFault = 6
status_of WriteFault = 7
status_of Memory = 12

-- a session over this log ended with this status
abbrev pub RunsTo : Setting → State → Log → Scene → Scene → ℕ → Type 0
RunsTo w opened log first now status =
    (ending : SessionEnd) × (status ≡ status_of ending)
    × IfSome first.input (Serves w (given opened.history) first.output now log ending)

-- the same, or there was no memory to begin a session (12): nothing was read or written, and
-- nothing was added to the log
abbrev pub HoldsSession : Setting → State → Log → Scene → Scene → ℕ → Type 0
HoldsSession w opened log first now status =
    RunsTo w opened log first now status
    ⊎ ((status ≡ 12) × (now ≡ first) × (log ≡ given opened.history))

-- the whole conversation over the input was held over this log, if the input is known
abbrev pub TalksIfTold : Setting → State → Log → Scene → Scene → Type 0
TalksIfTold w opened log first now =
    IfSome first.input (Talks w (given opened.history) first.output now log)

-- A run with this status has its cause: the count of failed reads rose exactly at 6, that of failed
-- writes at 7 and not at 0, 6 and 8.
pub record HasCauses (before now : Faults) (status : ℕ) : Type 0 where
  pub reads : now.reads ≡ (if status == 6 then next_count before.reads else before.reads)
  pub writes : (now.writes ≡ before.writes) ⊎ (now.writes ≡ next_count before.writes)
  pub failed : status ≡ 7 → now.writes ≡ next_count before.writes
  pub calm : (status ≡ 0) ⊎ ((status ≡ 6) ⊎ (status ≡ 8)) → now.writes ≡ before.writes

-- a text was printed at status 0, and a prefix of it at 7, if a write failed
abbrev pub Prints : Output → Output → List ℕ → ℕ → Type 0
Prints before now text status =
    ((status ≡ 0) × Writes before now text) ⊎ ((status ≡ 7) × BreaksOff before now [] text)
