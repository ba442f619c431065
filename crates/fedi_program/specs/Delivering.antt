-- Trying each delivery that is due once (ActivityPub, sections 7.1 and 7.1.2): the operator's
-- command, and what is printed.
use Rattle.std.specs.Prelude.{◌≡◌, ◌⊎◌, ℕ, List, [], ◌∷◌, ◌++◌, codes, decimal, length, Option}
use Rattle.std.specs.Prelude.{Bool, false, true, None, Result, Ok, Err}
use Rattle.std.specs.List.{flat_map}
use Rattle.fedi_address.specs.Iris.{host_of}
use Rattle.fedi_core.specs.Keeping.{IsKept, Refuses}
use Rattle.fedi_core.specs.declared.delivering.RecordFault.{RecordFault}
use Rattle.fedi_core.specs.declared.delivering.RecordFault.TheVariants as records
use Rattle.fedi_core.specs.declared.keeping.KeepFault.TheVariants as keeps
use Rattle.fedi_delivery.specs.Exchanges.{Told}
use Rattle.fedi_queue.specs.Due.{IsTo, due_in}
use Rattle.fedi_entry.specs.Codes.{code_of}
use Rattle.fedi_log.specs.Claims.{IsFirst, is_claimed_in}
use Rattle.fedi_log.specs.Keeping.{GoesAlone, State}
use Rattle.fedi_log.specs.Log.{Log, given, history_of}
use Rattle.fedi_log.specs.declared.items.Pair.{Pair}
use Rattle.fedi_logged.specs.Attempts.{Exchange, HasExchanged, IsBegun, ShowsCame}
use Rattle.fedi_objects.specs.declared.entry.Came.{Came}
use Rattle.fedi_objects.specs.declared.entry.Entry.{Entry}
use Rattle.fedi_objects.specs.declared.entry.Entry.TheVariants.{Tried}
use Rattle.fedi_opening.specs.Opening.{IsNext}
use Rattle.fedi_outside.specs.Keepers.{OnlyRoomChanged}
use Rattle.fedi_outside.specs.declared.doors.Bench.{Bench}
use Rattle.fedi_outside.specs.declared.links.Link.{Ghosts as LinkGhosts}
use Rattle.fedi_startup.specs.declared.faults.StoreFault.{StoreFault}
use Rattle.fedi_startup.specs.Surviving.{growth, room}
use Rattle.fedi_logged.specs.Conversations.{IsNow}
use Rattle.fedi_logged.specs.Endings.{BreaksOff, Output, Writes, WritesUnlessFailed}
use Rattle.fedi_town.specs.declared.outcome.Outcome.{Outcome}
use Rattle.fedi_town.specs.declared.outcome.Outcome.TheVariants.{Delivered, Again, GivenUp}
use Rattle.fedi_town.specs.Histories.{town}
use Rattle.fedi_town.specs.Legal.{IsLegal}
use Rattle.fedi_town.specs.Queues.{Delivery, outcome}
use Rattle.fedi_town.specs.Towns.{Town}
use Rattle.fedi_program.specs.Members.{IsSettled}
use Rattle.fedi_program.specs.Stores.{IsRefused, IsRunAlone, ReportsStore}
use Rattle.fedi_program.specs.declared.delivering.Stop.{Stop}
use Rattle.fedi_program.specs.declared.delivering.Stop.TheVariants.{WriteFault, KeeperFault, Full}
use Rattle.fedi_program.specs.declared.delivering.Stop.TheVariants.{Memory}
use Rattle.fedi_program.specs.Seen.{Medium, tells}

-- ---- one attempt

-- an attempt to deliver the activity with this id to the recipient: its exchanges and its result
pub record Trial : Type 0 where
  pub activity : List ℕ
  pub recipient : List ℕ
  pub exchanges : List Exchange
  pub came : Came

-- it was an attempt in this town
abbrev pub IsAttempt : Town → Trial → Type 0
IsAttempt t x = ShowsCame t x.activity x.recipient x.exchanges x.came

-- its entry, at this moment
abbrev pub entry_of : ℕ → Trial → Entry
entry_of moment x = Tried x.activity x.recipient x.came moment

-- ---- what is printed

-- the word for what an attempt means
abbrev pub word_of : Outcome → List ℕ
word_of Delivered = codes "delivered"
word_of Again = codes "again"
word_of GivenUp = codes "gave-up"

-- the line that reports an attempt: the activity, the host of the recipient, who is not named, and
-- the word
unfoldable pub attempt_line : (id recipient : List ℕ) → Came → List ℕ
attempt_line id recipient came =
    id
    ++ (codes " " ++ (host_of recipient ++ (codes " " ++ (word_of (outcome came) ++ codes "\n"))))

-- the line of a trial
abbrev pub line_of : Trial → List ℕ
line_of x = attempt_line x.activity x.recipient x.came

-- the lines of trials, in order
abbrev pub lines_of : List Trial → List ℕ
lines_of tried = flat_map line_of tried

-- the last line: how many were tried
unfoldable pub done_line : ℕ → List ℕ
done_line count = codes "done " ++ (decimal count ++ codes "\n")

-- ---- many attempts

-- the exchanges of trials, in order
abbrev pub exchanges_of : List Trial → List Exchange
exchanges_of tried = flat_map (λ (x : Trial). x.exchanges) tried

-- These attempts at this moment took the machine from the first state to the second, one after the
-- other, each at the history that those before it left, and the entry of each was kept.
abbrev pub TriesEach : (growth room : ℕ → ℕ) → ℕ → State → List Trial → State → Type 0
TriesEach growth room moment before [] after = after ≡ before
TriesEach growth room moment before (x ∷ xs) after =
    (next : State) × IsAttempt (town before.history) x
    × IsKept growth room before.history (entry_of moment x) before.keeper next.keeper next.history
    × TriesEach growth room moment next xs after

-- the trials are those of the first of these deliveries, in order, each once, and the others are
-- left
abbrev pub AreFirst : List Delivery → List Trial → List Delivery → Type 0
AreFirst due [] left = due ≡ left
AreFirst [] (x ∷ xs) left = ⊥
AreFirst (d ∷ due) (x ∷ xs) left = IsTo x.activity x.recipient d × AreFirst due xs left

-- ---- how the command ends

-- each was tried, and the last line printed, unless its write failed (7)
abbrev pub TellsDone : List Trial → Output → Output → ℕ → Type 0
TellsDone tried first now status =
    ((status ≡ 0) × Writes first now (lines_of tried ++ done_line (length tried)))
    ⊎ ((status ≡ 7) × BreaksOff first now (lines_of tried) (done_line (length tried)))

-- the line of the last that was tried was not printed, since its write failed (7)
abbrev pub LosesLine : List Trial → Output → Output → ℕ → Type 0
LosesLine tried first now status =
    (status ≡ 7) × (earlier : List Trial) × (x : Trial) × (tried ≡ earlier ++ x ∷ [])
    × BreaksOff first now (lines_of earlier) (line_of x)

-- the keeper had no room for the entry of one more attempt (13), or it failed and was asked once to
-- settle (5), and this is reported
abbrev pub IsUnrecorded : (ℕ → ℕ) → State → State → Entry → List Trial → Output → Output
    → ℕ → Type 0
IsUnrecorded room last after e tried first now status =
    ((status ≡ 13) × (after.history ≡ last.history)
    × Refuses room (code_of e) keeps.Full last.keeper after.keeper
    × WritesUnlessFailed first now (lines_of tried) (codes "full\n"))
    ⊎ ((status ≡ 5) × (refused : State) × (refused.history ≡ last.history)
    × Refuses room (code_of e) keeps.Failed last.keeper refused.keeper × IsSettled refused after
    × WritesUnlessFailed first now (lines_of tried) (codes "disk fault\n"))

-- How the trying ends after the deliveries that were tried, with exchanges beyond theirs: nothing
-- that is due is left; or a write failed; or the result of one more attempt was not kept; or there
-- was no memory to end the next attempt, or to begin any (12).
abbrev pub EndsTrying :
    (ℕ → ℕ) → ℕ → (last after : State) → List Trial → List Delivery → List Exchange
    → (first now : Output) → ℕ → Type 0
EndsTrying room moment last after tried left beyond first now status =
    ((left ≡ []) × (beyond ≡ []) × (after ≡ last) × TellsDone tried first now status)
    ⊎ (((beyond ≡ []) × (after ≡ last) × LosesLine tried first now status)
    ⊎ (((x : Trial) × IsFirst x.activity x.recipient left × IsAttempt (town last.history) x
    × (beyond ≡ x.exchanges)
    × IsUnrecorded room last after (entry_of moment x) tried first now status)
    ⊎ ((status ≡ 12) × (after.history ≡ last.history) × OnlyRoomChanged last.keeper after.keeper
    × Writes first now (lines_of tried)
    × ((beyond ≡ []) ⊎ ((id : List ℕ) × (recipient : List ℕ) × IsFirst id recipient left
    × IsBegun (town last.history) id recipient beyond)))))

-- The deliveries that were due at the one moment that was read were tried in order, each once: all
-- of them at status 0, and otherwise the first of them.
pub record TriesDue (growth room : ℕ → ℕ) (told : Option ℕ) (opened after : State)
    (before heard : Told) (first now : Output) (status : ℕ) : Type 0 where
  pub moment : ℕ
  pub is_now : IsNow told moment
  pub tried : List Trial
  pub left : List Delivery
  pub last : State
  pub beyond : List Exchange
  pub each : TriesEach growth room moment opened tried last
  pub due : AreFirst (due_in (town opened.history) moment) tried left
  pub exchanged : HasExchanged before heard (exchanges_of tried ++ beyond)
  pub ends : EndsTrying room moment last after tried left beyond first now status

-- How a run tries what is due in the store of a disk, over a link: the store is not opened, and
-- nothing is asked of the link; or it is opened.
abbrev pub DeliversStore : Option ℕ → Medium → Medium → Told → Told → Output → Output → ℕ → Type 0
DeliversStore told before after asked heard first now status =
    ((fault : StoreFault) × IsRefused before after fault × (heard ≡ asked)
    × ReportsStore fault first now status)
    ⊎ ((opened : State) × (closed : State) × IsRunAlone before after opened closed
    × TriesDue growth room told opened closed asked heard first now status)

-- ---- one delivery

-- why no more is tried, if the result of an attempt was not kept for this reason
abbrev pub stop_of : RecordFault → Stop
stop_of records.KeeperFault = KeeperFault
stop_of records.Full = Full
stop_of records.Memory = Memory

-- How one claimed delivery is tried: its entry is kept and its line printed; or that write failed;
-- or the entry was not kept, and if the keeper failed, it can be read at its position if it is
-- found there; or there was no memory to end the attempt.
abbrev pub EndsTrial :
    (growth room : ℕ → ℕ) → ℕ → (id recipient : List ℕ) → (before after : State)
    → (asked heard : Told) → (first now : Output) → Result (Unit {0}) Stop → Type 0
EndsTrial growth room moment id recipient before after asked heard first now (Ok done) =
    (exchanges : List Exchange) × (came : Came)
    × ShowsCame (town before.history) id recipient exchanges came
    × HasExchanged asked heard exchanges
    × IsKept growth room before.history
    (Tried id recipient came moment) before.keeper after.keeper after.history
    × Writes first now (attempt_line id recipient came)
EndsTrial growth room moment id recipient before after asked heard first now (Err WriteFault) =
    (exchanges : List Exchange) × (came : Came)
    × ShowsCame (town before.history) id recipient exchanges came
    × HasExchanged asked heard exchanges
    × IsKept growth room before.history
    (Tried id recipient came moment) before.keeper after.keeper after.history
    × BreaksOff first now [] (attempt_line id recipient came)
EndsTrial growth room moment id recipient before after asked heard first now (Err KeeperFault) =
    (exchanges : List Exchange) × (came : Came)
    × ShowsCame (town before.history) id recipient exchanges came
    × HasExchanged asked heard exchanges × (after.history ≡ before.history)
    × Refuses room (code_of (Tried id recipient came moment)) keeps.Failed before.keeper
    after.keeper × IsNext (town before.history) (Tried id recipient came moment) × (now ≡ first)
EndsTrial growth room moment id recipient before after asked heard first now (Err Full) =
    (exchanges : List Exchange) × (came : Came)
    × ShowsCame (town before.history) id recipient exchanges came
    × HasExchanged asked heard exchanges × (after.history ≡ before.history)
    × Refuses room (code_of (Tried id recipient came moment)) keeps.Full before.keeper after.keeper
    × (now ≡ first)
EndsTrial growth room moment id recipient before after asked heard first now (Err Memory) =
    (exchanges : List Exchange) × IsBegun (town before.history) id recipient exchanges
    × HasExchanged asked heard exchanges
    × (after.history ≡ before.history) × OnlyRoomChanged before.keeper after.keeper × (now ≡ first)

-- the first delivery that is due at this moment was tried, with this result
pub record TriesFirst (growth room : ℕ → ℕ) (moment : ℕ) (before after : State) (asked heard : Told)
    (first now : Output) (result : Result (Unit {0}) Stop) : Type 0 where
  pub id : List ℕ
  pub recipient : List ℕ
  pub delivery : Delivery
  pub rest : List Delivery
  pub due : due_in (town before.history) moment ≡ delivery ∷ rest
  pub to : IsTo id recipient delivery
  pub ends : EndsTrial growth room moment id recipient before after asked heard first now result

-- nothing was done
pub record DoesNothing (before after : State) (asked heard : Told) (first now : Output) : Type 0
  where
    pub same : after ≡ before
    pub silent : HasExchanged asked heard []
    pub unwritten : now ≡ first

-- How the first delivery that is due is tried: there is none, or its entry is kept and its line
-- printed; or no more is tried, after it was, or since there was no memory to begin.
abbrev pub EndsNext :
    (growth room : ℕ → ℕ) → ℕ → (before after : State) → (asked heard : Told)
    → (first now : Output) → Result Bool Stop → Type 0
EndsNext growth room moment before after asked heard first now (Ok false) =
    (due_in (town before.history) moment ≡ []) × DoesNothing before after asked heard first now
EndsNext growth room moment before after asked heard first now (Ok true) =
    TriesFirst growth room moment before after asked heard first now (Ok tt)
EndsNext growth room moment before after asked heard first now (Err stop) =
    TriesFirst growth room moment before after asked heard first now (Err stop)
    ⊎ ((stop ≡ Memory) × DoesNothing before after asked heard first now)

-- the log of a machine that nobody else uses, with this history: nothing of it is claimed
pub record IsAtRest (opened history : List Entry) (log : Log) : Type 0 where
  pub alone : GoesAlone None (given opened) log
  pub held : history ≡ history_of log
  pub free : (p : Pair) → is_claimed_in log p ≡ false
  pub legal : IsLegal history

-- What follows if no more is tried, and the status: the reason is reported, unless a write failed,
-- or there is no memory; and a keeper that failed is asked once to settle.
abbrev pub IsStopped : Stop → (before after : State) → (first now : Output) → ℕ → Type 0
IsStopped WriteFault before after first now status = (status ≡ 7) × (after ≡ before) × (now ≡ first)
IsStopped KeeperFault before after first now status =
    (status ≡ 5) × IsSettled before after × WritesUnlessFailed first now [] (codes "disk fault\n")
IsStopped Full before after first now status =
    (status ≡ 13) × (after ≡ before) × WritesUnlessFailed first now [] (codes "full\n")
IsStopped Memory before after first now status = (status ≡ 12) × (after ≡ before) × (now ≡ first)

-- ---- benches

-- How a run tries what is due by the link of the first of these benches: only this link is asked,
-- and everything else of the benches stays.
abbrev pub DeliversBy :
    {W K : Type 0} → LinkGhosts K → Option ℕ → Medium → Medium → (benches now : List (Bench W K))
    → Output → Output → ℕ → Type 0
DeliversBy links told before after [] now first out status = ⊥
DeliversBy links told before after (b ∷ benches) now first out status =
    (link : _) × (now ≡ record b { link = link } ∷ benches)
    × DeliversStore told before after (tells links b.link) (tells links link) first out status
