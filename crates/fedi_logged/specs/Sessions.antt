-- What a session leaves of a machine that nobody else uses.
use Rattle.std.specs.Prelude.{IfSome}
use Rattle.fedi_log.specs.Keeping.{State}
use Rattle.fedi_log.specs.Log.{Log}
use Rattle.fedi_outside.specs.Keepers.{Crashes}
use Rattle.fedi_logged.specs.Conversations.{Setting}
use Rattle.fedi_logged.specs.Endings.{Scene, Serves}
use Rattle.fedi_logged.specs.declared.sessions.SessionEnd.{SessionEnd}
use Rattle.fedi_logged.specs.Marks.{Survives}

-- How a session ended: the machine holds a log that extends what was seen, and crashes along it are
-- as `CrashesAlong` says. If the input is known, what was read and written is one conversation over
-- this log.
abbrev pub EndsSession : Setting → Log → Scene → Scene → Crashes → State → Crashes
    → SessionEnd → Type 0
EndsSession w seen first now before state after ending =
    (log : Log) × Survives w.base w.by seen log state before after
    × IfSome first.input (Serves w seen first.output now log ending)
