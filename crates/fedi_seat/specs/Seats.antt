-- A server of a world.
use Rattle.std.specs.Prelude.{◌≡◌, false, IsTrue, List, is_some, map}
use Rattle.fedi_log.specs.Claims.{ClaimsStand, tries}
use Rattle.fedi_log.specs.Log.{Log, history_of}
use Rattle.fedi_log.specs.declared.items.Pair.{Pair}
use Rattle.fedi_objects.specs.declared.entry.Entry.{Entry}
use Rattle.fedi_queue.specs.declared.rows.QueueRow.{QueueRow}
use Rattle.fedi_queue.specs.Claims.{release}
use Rattle.fedi_queue.specs.Rows.{rows_of}
use Rattle.fedi_town.specs.Histories.{town}
use Rattle.fedi_town.specs.Legal.{IsLegal}

-- the history is legal, has set the server up, and is that of the log; and the deliveries are
-- claimed as the log says
pub record IsSeat (h : List Entry) (rows : List QueueRow) (log : Log) : Type 0 where
  pub of : h ≡ history_of log
  pub legal : IsLegal h
  pub hosted : IsTrue (is_some (town h).host)
  pub queue : map release rows ≡ rows_of (town h)
  pub stand : ClaimsStand (town h).acts rows log

-- the entry records an attempt of no delivery
abbrev pub IsUntried : Entry → Type 0
IsUntried e = (p : Pair) → tries p e ≡ false
