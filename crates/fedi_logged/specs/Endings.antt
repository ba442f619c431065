-- How a session may end, and what has happened for each end.
use Rattle.std.specs.Prelude.{◌≡◌, ◌⊎◌, ℕ, ◌<◌, Bool, false, true, List, [], ◌++◌, length, take}
use Rattle.std.specs.Prelude.{Option, Some, None, if◌then◌else◌}
use Rattle.std.specs.Io.KnownBytes.{Appends, prepend_known}
use Rattle.fedi_http.specs.Arrivals.{LacksRequest}
use Rattle.fedi_http.specs.declared.arrivals.Arrived.TheVariants as arrivals
use Rattle.fedi_http.specs.declared.heads.TheConstants.{HEAD_LIMIT}
use Rattle.fedi_http.specs.declared.requests.TheConstants.{MOST_FIELDS}
use Rattle.fedi_log.specs.Log.{Goes, Log}
use Rattle.fedi_model.specs.ReplyText.{memory_text}
use Rattle.fedi_outside.specs.Causes.{next_count}
use Rattle.fedi_logged.specs.Conversations.{Setting, Exchange, Progress, IsExchange, Converses}
use Rattle.fedi_logged.specs.Conversations.{StandsAtFront, IsCutShort, IsOver, after, beginning}
use Rattle.fedi_logged.specs.Conversations.{progress, text_of}
use Rattle.fedi_logged.specs.declared.sessions.SessionEnd.{SessionEnd}
use Rattle.fedi_logged.specs.declared.sessions.SessionEnd.TheVariants.{End, CutShort, Closed}
use Rattle.fedi_logged.specs.declared.sessions.SessionEnd.TheVariants.{ReadFault, WriteFault}
use Rattle.fedi_logged.specs.declared.sessions.SessionEnd.TheVariants.{Memory}

-- ---- the state at a moment

-- what was written, if it is known, and how many writes failed
pub record Output : Type 0 where
  pub sent : Option (List ℕ)
  pub faults : ℕ

-- the output of this sink, by the functions that give it for sinks of its kind
abbrev pub output_by : {O : Type 0} → (O → Option (List ℕ)) → (O → ℕ) → O → Output
output_by sent faults out = record { sent = sent out; faults = faults out }

-- the input that is to come, if it is known, and the output
pub record Scene : Type 0 where
  pub input : Option (List ℕ)
  pub output : Output

-- the scene that consists of these
abbrev pub scene_of : Option (List ℕ) → Output → Scene
scene_of input output = record { input = input; output = output }

-- the scene of this source and this sink, by the functions that give it for their kinds
abbrev pub scene_by : {S O : Type 0} → (S → Option (List ℕ)) → (O → Option (List ℕ)) → (O → ℕ)
    → S → O → Scene
scene_by left sent faults input out = scene_of (left input) (output_by sent faults out)

-- the scene of this channel, by the functions that give it for channels of its kind
abbrev pub scene_on : {H : Type 0} → (H → Option (List ℕ)) → (H → Option (List ℕ))
    → (H → ℕ) → H → Scene
scene_on left sent faults channel = scene_by left sent faults channel channel

-- ---- what is sent

-- the text was sent, and no write failed
pub record Writes (before now : Output) (text : List ℕ) : Type 0 where
  pub sent : Appends before.sent now.sent text
  pub calm : now.faults ≡ before.faults

-- after the first text, the second was sent up to a write that failed: a proper prefix of it
pub record BreaksOff (before now : Output) (written text : List ℕ) : Type 0 where
  pub prefix : ℕ
  pub short : prefix < length text
  pub sent : Appends before.sent now.sent (written ++ take prefix text)
  pub cause : now.faults ≡ next_count before.faults

-- after the first text, the second was sent whole, unless a write failed
abbrev pub WritesUnlessFailed : Output → Output → List ℕ → List ℕ → Type 0
WritesUnlessFailed before now written text =
    Writes before now (written ++ text) ⊎ BreaksOff before now written text

-- how the session ends after a reply was sent, if it does
abbrev pub end_by : Bool → Option SessionEnd
end_by closing = if closing then Some Closed else None

-- a reply of this text was sent, and the session then ends in this way, if it does
abbrev pub Replies : Output → Output → List ℕ → Bool → Option SessionEnd → Type 0
Replies before now text closing ending =
    ((ending ≡ end_by closing) × Writes before now text)
    ⊎ ((ending ≡ Some WriteFault) × BreaksOff before now [] text)

-- there was no memory for the reply, and the other side was informed, unless a write failed
abbrev pub GivesUp : Output → Output → Option SessionEnd → Type 0
GivesUp before now ending = (ending ≡ Some Memory) × WritesUnlessFailed before now [] memory_text

-- ---- how a session ends

-- the connection is open after this progress, and these bytes of the remaining input were read
pub record IsAt (first : Output) (now : Scene) (pending : List ℕ) (p : Progress) : Type 0 where
  pub open_yet : p.closed ≡ false
  pub input : prepend_known pending now.input ≡ Some p.left
  pub written : Writes first now.output p.written

-- everything that this progress has written was sent, and the log is the one that was seen, or
-- extends it
pub record IsDone (w : Setting) (first now : Output) (log : Log) (p : Progress) : Type 0 where
  pub written : Writes first now p.written
  pub later : Goes w.by p.log log

-- a read failed, and the bytes that were read since the last request contain neither a request nor
-- a refusal
pub record IsUnread (w : Setting) (first : Output) (now : Scene) (log : Log)
    (p : Progress) : Type 0 where
  pub taken : List ℕ
  pub at : IsAt first now taken p
  pub lacks : LacksRequest HEAD_LIMIT MOST_FIELDS taken
  pub later : Goes w.by p.log log

-- a reply was begun, but a write failed
pub record IsBrokenOff (w : Setting) (first now : Output) (log : Log) (p : Progress) : Type 0 where
  pub exchange : Exchange
  pub next : IsExchange w p exchange
  pub later : Goes w.by (after w p exchange).log log
  pub broken : BreaksOff first now p.written (text_of p.count exchange)

-- memory ran out: nothing was kept and the keeper did not fail, and instead of a reply the other
-- side was informed, unless a write failed
pub record IsGivenUp (w : Setting) (first now : Output) (log : Log) (p : Progress) : Type 0 where
  pub open_yet : p.closed ≡ false
  pub later : Goes w.by p.log log
  pub told : WritesUnlessFailed first now p.written memory_text

-- a session ends in this way after this progress
abbrev pub Finishes : Setting → Output → Scene → Log → Progress → SessionEnd → Type 0
Finishes w first now log p End =
    (p.closed ≡ false) × StandsAtFront p.left arrivals.End × IsDone w first now.output log p
Finishes w first now log p Closed = (p.closed ≡ true) × IsDone w first now.output log p
Finishes w first now log p CutShort = IsCutShort p × IsDone w first now.output log p
Finishes w first now log p ReadFault = IsUnread w first now log p
Finishes w first now log p WriteFault = IsBrokenOff w first now.output log p
Finishes w first now log p Memory = IsGivenUp w first now.output log p

-- a session ended in this way over this input and this log, after what was seen of it
pub record Serves (w : Setting) (seen : Log) (first : Output) (now : Scene) (log : Log)
    (ending : SessionEnd) (input : List ℕ) : Type 0 where
  pub exchanges : List Exchange
  pub each : Converses w (beginning input seen) exchanges
  pub ends : Finishes w first now log (progress w (beginning input seen) exchanges) ending

-- the whole conversation over this input took place: each request has its reply, and nothing else
-- was written
pub record Talks (w : Setting) (seen : Log) (first : Output) (now : Scene) (log : Log)
    (input : List ℕ) : Type 0 where
  pub exchanges : List Exchange
  pub each : Converses w (beginning input seen) exchanges
  pub over : IsOver (progress w (beginning input seen) exchanges)
  pub done : IsDone w first now.output log (progress w (beginning input seen) exchanges)

-- one exchange succeeded and the connection continues, or a session ended in this way
abbrev pub Steps : Setting → Output → Scene → Log → List ℕ → Progress → Option SessionEnd → Type 0
Steps w first now log pending p None =
    (x : Exchange) × IsExchange w p x × ((after w p x).log ≡ log)
    × IsAt first now pending (after w p x)
Steps w first now log pending p (Some Closed) =
    (x : Exchange) × IsExchange w p x × Finishes w first now log (after w p x) Closed
Steps w first now log pending p (Some End) = Finishes w first now log p End
Steps w first now log pending p (Some CutShort) = Finishes w first now log p CutShort
Steps w first now log pending p (Some ReadFault) = Finishes w first now log p ReadFault
Steps w first now log pending p (Some WriteFault) = Finishes w first now log p WriteFault
Steps w first now log pending p (Some Memory) = Finishes w first now log p Memory

-- the same from each progress with this log and this count
abbrev pub StepsOn : Setting → Log → ℕ → Scene → List ℕ → Scene → List ℕ → Log
    → Option SessionEnd → Type 0
StepsOn w seen count before old now pending log ending =
    (first : Output) (p : Progress) → p.log ≡ seen → p.count ≡ count → IsAt first before old p
    → Steps w first now log pending p ending

-- how many reads failed, and how many writes
pub record Faults : Type 0 where
  pub reads : ℕ
  pub writes : ℕ

-- the record of these counts
abbrev pub faults_of : ℕ → ℕ → Faults
faults_of reads writes = record { reads = reads; writes = writes }

-- the counts of this source and this sink, by the functions that give them for their kinds
abbrev pub faults_by : {S O : Type 0} → (S → ℕ) → (O → ℕ) → S → O → Faults
faults_by reads writes input out = faults_of (reads input) (writes out)

-- the counts of this channel, by the functions that give them for channels of its kind
abbrev pub faults_on : {H : Type 0} → (H → ℕ) → (H → ℕ) → H → Faults
faults_on reads writes channel = faults_by reads writes channel channel

-- an end that reports a fault has its cause: that count rose by one, and no other did
abbrev pub IsCaused : Faults → Faults → SessionEnd → Type 0
IsCaused before now End = now ≡ before
IsCaused before now CutShort = now ≡ before
IsCaused before now Closed = now ≡ before
IsCaused before now ReadFault = now ≡ record before { reads = next_count before.reads }
IsCaused before now WriteFault = now ≡ record before { writes = next_count before.writes }
IsCaused before now Memory =
    (now ≡ before) ⊎ (now ≡ record before { writes = next_count before.writes })

-- a step after which the session continues counts no fault
abbrev pub IsCounted : Faults → Faults → Option SessionEnd → Type 0
IsCounted before now None = now ≡ before
IsCounted before now (Some ending) = IsCaused before now ending
