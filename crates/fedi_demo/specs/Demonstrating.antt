-- A demonstration: what eight members ask of a server in memory, by a number.
use Rattle.std.specs.Prelude.{◌≡◌, ℕ, zero, suc, Bool, false, true, List, [], ◌∷◌, ◌++◌, codes, decimal}
use Rattle.std.specs.Prelude.{length, replicate, Some, None}
use Rattle.sha2.specs.Sha256.{sha256}
use Rattle.fedi_demo.specs.Requests.{first_half, second_half}
use Rattle.fedi_demo.specs.Summary.{summary_text}
use Rattle.fedi_demo.specs.declared.printed.Held.{Held}
use Rattle.fedi_log.specs.Keeping.{State}
use Rattle.fedi_log.specs.Log.{given, history_of}
use Rattle.fedi_objects.specs.declared.entry.Entry.{Entry}
use Rattle.fedi_objects.specs.declared.entry.Entry.TheVariants.{Hosted, Made, PeerSet}
use Rattle.fedi_outside.specs.MemoryDisks.{MemoryDiskState, contents_of}
use Rattle.fedi_report.specs.Reports.{waiting}
use Rattle.fedi_startup.specs.Stores.{IsStoreOf, end_of}
use Rattle.fedi_startup.specs.Surviving.{growth, room}
use Rattle.fedi_logged.specs.Conversations.{
  AreCalm,
  Converses,
  Exchange,
  IsOver,
  NoGaps,
  Progress,
  Setting,
  beginning,
  progress,
}
use Rattle.fedi_logged.specs.Turning.{setting_by}
use Rattle.fedi_logged.specs.declared.sessions.SessionEnd.{SessionEnd}
use Rattle.fedi_logged.specs.declared.sessions.SessionEnd.TheVariants.{End, CutShort, Closed}
use Rattle.fedi_logged.specs.declared.sessions.SessionEnd.TheVariants.{ReadFault, WriteFault}
use Rattle.fedi_logged.specs.declared.sessions.SessionEnd.TheVariants.{Memory}
use Rattle.fedi_town.specs.Histories.{town}

-- ---- the town before the first request

-- each moment of a demonstration: 1994-11-06T08:49:37Z
abbrev pub moment : ℕ
moment = 784111777

-- the member with this number, whose key has 32 bytes that are the number
unfoldable pub member : ℕ → Entry
member number =
    Made (codes "m" ++ decimal number) (sha256 (replicate 32 number)) false moment

-- this many members, from m0 on
abbrev pub members : ℕ → List Entry
members zero = []
members (suc count) = members count ++ member count ∷ []

-- the server is set up, with no members yet
unfoldable pub set_up : Entry
set_up = Hosted (codes "town.example") moment

-- the one peer
unfoldable pub far_peer : Entry
far_peer = PeerSet (codes "far.example") (replicate 32 255) (codes "far") false moment

-- the history before the first request
unfoldable pub founding : List Entry
founding = (set_up ∷ members 8) ++ far_peer ∷ []

-- ---- its connections

-- nobody else adds to the log, at this moment, over the keeper of a store that was opened in this
-- state
abbrev pub setting : State → Setting
setting opened = setting_by growth room (Some moment) None opened

-- the progress on a connection, over the machine that was opened in this state, after these
-- exchanges
abbrev pub reached : State → List ℕ → List Exchange → Progress
reached opened input exchanges =
    progress (setting opened) (beginning input (given opened.history)) exchanges

-- All of the input was answered on one connection, with this text, over a machine that was opened
-- on the store of the first history and has the second history afterwards; and the disk did not
-- fail.
pub record IsVisit (before : List Entry) (input : List ℕ) (after : List Entry) (text : List ℕ)
    : Type 0 where
  pub opened : State
  pub exchanges : List Exchange
  pub history : opened.history ≡ before
  pub end : opened.keeper.end ≡ end_of before
  pub each : Converses (setting opened) (beginning input (given opened.history)) exchanges
  pub alone : NoGaps (setting opened) (beginning input (given opened.history)) exchanges
  pub calm : AreCalm exchanges
  pub over : IsOver (reached opened input exchanges)
  pub after_is : after ≡ history_of (reached opened input exchanges).log
  pub text_is : text ≡ (reached opened input exchanges).written

-- the session ended because its input did, or by a reply that closes the connection
abbrev pub is_whole : SessionEnd → Bool
is_whole End = true
is_whole Closed = true
is_whole CutShort = false
is_whole ReadFault = false
is_whole WriteFault = false
is_whole Memory = false

-- ---- what is printed

-- how much the store of this history holds
abbrev pub held_of : List Entry → Held
held_of history = record {
  entries = length history;
  activities = length (town history).acts;
  queue = waiting (town history);
}

-- The text of the demonstration with this number: the requests are answered on two connections, one
-- after the other, and the text describes what was written on them, and the history at the end.
pub record IsDemo (number : ℕ) (text : List ℕ) : Type 0 where
  pub middle : List Entry
  pub last : List Entry
  pub first_text : List ℕ
  pub second_text : List ℕ
  pub first : IsVisit founding (first_half number) middle first_text
  pub second : IsVisit middle (second_half number) last second_text
  pub text_is : text ≡ summary_text number (held_of last) (first_text ++ second_text)

-- ---- its disk

-- the disk in memory has the store of this history, and none of its calls failed
pub record HasStore (history : List Entry) (disk : MemoryDiskState) : Type 0 where
  pub stored : IsStoreOf history (contents_of disk.base disk.calls).reads
  pub calm : disk.faults ≡ 0
