-- A lock over a value with a log, and which passes are idle at it.
use Rattle.std.specs.Prelude.{[]}
use Rattle.fedi_log.specs.Log.{Log}
use Rattle.fedi_log.specs.declared.items.Item.{Item}
use Rattle.fedi_turn.specs.declared.grows.Grows.{Ghosts}
use Rattle.fedi_turn.specs.declared.lock.Pass.{Pass}
use Rattle.fedi_turn.specs.declared.lock.TurnLock.{TurnLock}
use Rattle.fedi_turn.specs.Turn.{IsIdle}

-- how the value grows: it holds this log, whose items name passes
abbrev pub growth : {V : Type 0} → (V → Log) → Ghosts V Item
growth {V} log = record { list = log; base = λ _. []; name = λ (i : Item). i.pass }

-- the pass is of this lock over such a value, and idle
abbrev pub IsIdleBy : {V : Type 0} → (V → Log) → TurnLock V Item → Pass Item → Type 0
IsIdleBy log l p = IsIdle (growth log) l p
