-- How the queue is held.
use Rattle.std.specs.Prelude.{◌≡◌, ⊤, List, [], ◌++◌, length, map, Option, Some, None}
use Rattle.fedi_objects.specs.declared.entry.Entry.{Entry}
use Rattle.fedi_queue.specs.declared.queue.Queue.TheInside.{Inside}
use Rattle.fedi_queue.specs.declared.queue.Room.{Room}
use Rattle.fedi_queue.specs.declared.queue.Start.{Start}
use Rattle.fedi_queue.specs.Claims.{Listed, release}
use Rattle.fedi_queue.specs.Queues.{Fits, HasRoom, Queued}
use Rattle.fedi_queue.specs.Rows.{rows_of}
use Rattle.fedi_town.specs.Histories.{town}

-- the history for which the queue was made
abbrev pub before_in : Option Start → List Entry
before_in None = []
before_in (Some start) = start.facts.value.history

-- the history, with what came since
abbrev pub history_in : Inside → List Entry
history_in q = before_in q.start ++ q.since

-- the entry for which there is room
abbrev pub entry_in : Option Room → Option Entry
entry_in None = None
entry_in (Some r) = Some r.entry.value

-- the queue, as its callers see it
abbrev pub queued_in : Inside → Queued
queued_in q = record { history = history_in q; rows = q.rows.rows; room = entry_in q.room }

-- what was made ready fits, and there is room for it
abbrev pub IsRoom : List Entry → Listed → Option Room → Type 0
IsRoom history listed None = ⊤
IsRoom history listed (Some r) =
    Fits (town history) r.entry.value r.change × HasRoom r.change (length listed.rows) listed.room

-- the rows are those of the history
pub record IsSound (history : List Entry) (listed : Listed) (coming : Option Room) : Type 0 where
  pub rows : map release listed.rows ≡ rows_of (town history)
  pub room : IsRoom history listed coming

-- the same of what is held
abbrev pub IsQueue : Inside → Type 0
IsQueue q = IsSound (history_in q) q.rows q.room
