-- A door in memory, as its callers see it.
use Rattle.std.specs.Prelude.{ℕ, ⊤, Bool, true, false, List, Option, None, Some, option_map}
use Rattle.fedi_outside.specs.Doors.{Coming, IsNewLine, Rested, Row, Served, coming_by, spoken_by}
use Rattle.fedi_outside.specs.declared.memory_doors.MemoryRow.{MemoryRow}
use Rattle.fedi_outside.specs.declared.memory_doors.MemoryRow.TheVariants as rows
use Rattle.fedi_outside.specs.declared.memory_lines.MemoryLine.{MemoryLine}
use Rattle.fedi_outside.specs.declared.turns.Turn.{Turn}
use Rattle.fedi_outside.specs.declared.turns.Turn.TheVariants.{Line, Idle, Closed, Failed}

-- a door in memory
pub record MemoryDoorState : Type 0 where
  pub turns : List (Turn MemoryLine)  -- the turns to come
  pub out : Option MemoryLine  -- the line that is out, as it came
  pub idle : Bool  -- whether it waits for the report of a rest
  pub closed : Bool  -- whether its last turn said that it is closed
  pub rows : List MemoryRow  -- the lines that came back, and the rests
  pub faults : ℕ  -- how many turns failed

-- what was sent on a line in memory
abbrev pub line_sent : MemoryLine → Option (List ℕ)
line_sent l = Some l.sink.sent

-- what is to be read from it
abbrev pub line_left : MemoryLine → Option (List ℕ)
line_left l = Some l.source.left

-- how many of its reads failed
abbrev pub line_reads : MemoryLine → ℕ
line_reads l = l.source.plan.faults

-- how many of its writes failed
abbrev pub line_writes : MemoryLine → ℕ
line_writes l = l.sink.plan.faults

-- if the turn is a line, the line is new
abbrev pub IsNewTurn : Turn MemoryLine → Type 0
IsNewTurn (Line l) = IsNewLine line_sent line_reads line_writes l
IsNewTurn Idle = ⊤
IsNewTurn Closed = ⊤
IsNewTurn Failed = ⊤

-- the line that is out, as it came
abbrev pub out_of : MemoryDoorState → Option Coming
out_of d = option_map (coming_by line_left line_sent) d.out

-- the row that this row in memory represents
abbrev pub row_of : MemoryRow → Row
row_of (rows.Spoken came line) =
    Served (spoken_by line_left line_sent line_reads line_writes
    (coming_by line_left line_sent came.value) line)
row_of (rows.Rested rest) = Rested rest

-- how many rows are owed: one for a line that is out, and one for a rest that is to be reported
abbrev pub owed : {X : Type 0} → Option X → Bool → ℕ
owed None false = 0
owed None true = 1
owed (Some x) idle = 1
