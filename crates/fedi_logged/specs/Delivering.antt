-- How one delivery is attempted, over a log that others may add to too (ActivityPub, section 7.1).
use Rattle.std.specs.Prelude.{◌≡◌, ◌⊎◌, ℕ, ◌≤◌, List, [], ◌∷◌, ◌++◌, length, Option, None, Some}
use Rattle.std.specs.Prelude.{Result, Ok, Err}
use Rattle.std.specs.declared.alloc.AllocError.{AllocError}
use Rattle.fedi_core.specs.declared.delivering.RecordFault.{RecordFault}
use Rattle.fedi_core.specs.declared.delivering.RecordFault.TheVariants as records
use Rattle.fedi_log.specs.Claims.{IsFirst, free_in}
use Rattle.fedi_log.specs.Log.{Goes, Log, history_of, made_by}
use Rattle.fedi_log.specs.declared.items.Pair.{Pair}
use Rattle.fedi_log.specs.declared.items.What.TheVariants.{Released}
use Rattle.fedi_logged.specs.Attempts.{Exchange, HasExchanged, IsBegun, ShowsCame}
use Rattle.fedi_log.specs.Keeping.{Base}
use Rattle.fedi_logged.specs.Claiming.{IsCrowded, Records, TakesUp, claim_item}
use Rattle.fedi_logged.specs.declared.claims.Sending.{Sending}
use Rattle.fedi_delivery.specs.Exchanges.{Told}
use Rattle.fedi_objects.specs.declared.entry.Came.{Came}
use Rattle.fedi_outside.specs.declared.turns.Rest.{Rest}
use Rattle.fedi_outside.specs.declared.turns.Rest.TheVariants as rests
use Rattle.fedi_queue.specs.declared.rows.Claim.{Claim}
use Rattle.fedi_logged.specs.Conversations.{IsNow, Setting}
use Rattle.fedi_town.specs.Histories.{town}
use Rattle.fedi_logged.specs.declared.delivering.Step.{Step}
use Rattle.fedi_logged.specs.declared.delivering.Step.TheVariants.{Sent, Nothing, Fault, Full}
use Rattle.fedi_logged.specs.declared.delivering.Step.TheVariants.{Memory}
use Rattle.fedi_logged.specs.declared.delivering.Tried.{Tried}

-- an attempt: the log at which its delivery was claimed, the delivery and the claim, and the log at
-- which the attempt ended
pub record Attempt : Type 0 where
  pub log : Log
  pub pair : Pair
  pub claim : Claim
  pub back : Log

-- The delivery is the first that was due at this moment and not claimed, at a log that extends what
-- was seen. The log at the end of the attempt extends the claim by items of others.
pub record IsOut (by : Option ℕ) (moment : ℕ) (seen : Log) (a : Attempt) : Type 0 where
  pub later : Goes by seen a.log
  pub at : a.claim.moment ≡ moment
  pub first : IsFirst a.pair.activity a.pair.recipient (free_in a.log moment)
  pub back : Goes by (a.log ++ claim_item by a.pair a.claim ∷ []) a.back

-- the delivery was attempted, and is claimed at the last log; its claim is at this position
pub record IsTried (by : Option ℕ) (moment : ℕ) (seen now : Log) (asked heard : Told) (front : ℕ)
    (t : Tried) : Type 0 where
  pub log : Log
  pub pair : Pair
  pub out : IsOut by moment seen (record { log = log; pair = pair; claim = t.claim; back = now })
  pub counts : front ≡ length log
  pub exchanges : List Exchange
  pub shows : ShowsCame (town (history_of log)) pair.activity pair.recipient exchanges t.came
  pub exchanged : HasExchanged asked heard exchanges

-- an attempt that was not finished because memory ran out, and whose delivery was released
pub record IsGivenUp (by : Option ℕ) (moment : ℕ) (seen now : Log) (asked heard : Told) : Type 0
  where
    pub attempt : Attempt
    pub out : IsOut by moment seen attempt
    pub exchanges : List Exchange
    pub begun :
        IsBegun (town (history_of attempt.log)) attempt.pair.activity attempt.pair.recipient exchanges
    pub exchanged : HasExchanged asked heard exchanges
    pub released : now ≡ attempt.back ++ made_by by (Released attempt.pair) ∷ []

-- The first delivery that is due at this moment and not claimed is attempted, and is then still
-- claimed; or there is none; or memory ran out, and the delivery is released, or the log is crowded
-- and nothing was claimed.
abbrev pub TriesNext : Option ℕ → ℕ → (seen now : Log) → (asked heard : Told) → ℕ
    → Result (Option Tried) AllocError → Type 0
TriesNext by moment seen now asked heard front (Ok None) =
    HasExchanged asked heard [] × Goes by seen now × (front ≡ length now)
    × (free_in now moment ≡ [])
TriesNext by moment seen now asked heard front (Ok (Some t)) =
    IsTried by moment seen now asked heard front t
TriesNext by moment seen now asked heard front (Err e) =
    (HasExchanged asked heard [] × Goes by seen now × IsCrowded now)
    ⊎ IsGivenUp by moment seen now asked heard

-- The delivery is the first that was due and not claimed, at a moment that the clock gave and at a
-- log that extends what was seen. The log at the end of the attempt extends the claim by items of
-- others.
pub record IsAttempt (w : Setting) (seen : Log) (a : Attempt) : Type 0 where
  pub later : Goes w.by seen a.log
  pub first : IsFirst a.pair.activity a.pair.recipient (free_in a.log a.claim.moment)
  pub now : IsNow w.told a.claim.moment
  pub back : Goes w.by (a.log ++ claim_item w.by a.pair a.claim ∷ []) a.back

-- The outcome is what the exchanges of the attempt show, with the requests at the history at which
-- the delivery was claimed; and it was recorded or not, with this result, at the later of two
-- moments that the clock gave.
pub record Ends (w : Setting) (now : Log) (exchanges : List Exchange) (a : Attempt) (came : Came)
    (moment : ℕ) (recorded : Result (Unit {0}) RecordFault) : Type 0 where
  pub shows : ShowsCame (town (history_of a.log)) a.pair.activity a.pair.recipient exchanges came
  pub now_is : IsNow w.told moment
  pub later : a.claim.moment ≤ moment
  pub records : Records w.base w.by a.back now a.pair came moment recorded

-- an attempt whose outcome was recorded or not, with this result
pub record Tries (w : Setting) (seen now : Log) (exchanges : List Exchange) (claimed front : ℕ)
    (came : Came) (recorded : Result (Unit {0}) RecordFault) : Type 0 where
  pub attempt : Attempt
  pub is : IsAttempt w seen attempt
  pub claimed_at : claimed ≡ length attempt.log
  pub ended_at : front ≡ length attempt.back
  pub moment : ℕ
  pub ends : Ends w now exchanges attempt came moment recorded

-- an attempt that was not finished because memory ran out, and whose delivery was released
pub record GivesUp (w : Setting) (seen now : Log) (exchanges : List Exchange) : Type 0 where
  pub attempt : Attempt
  pub is : IsAttempt w seen attempt
  pub begun :
      IsBegun (town (history_of attempt.log)) attempt.pair.activity attempt.pair.recipient exchanges
  pub released : now ≡ attempt.back ++ made_by w.by (Released attempt.pair) ∷ []

-- From what was seen of the log before to what was seen after, with these exchanges: the outcome of
-- an attempt was kept, at `front`; or the keeper failed to keep it; or the keeper had no room for
-- it; or there was nothing left to claim that was due; or memory ran out, and the delivery that was
-- claimed was released, or the log is crowded and nothing was claimed.
abbrev pub IsStep : Setting → Log → Log → List Exchange → Step → Type 0
IsStep w seen now exchanges (Sent claimed came front) =
    Tries w seen now exchanges claimed front came (Ok tt)
IsStep w seen now exchanges (Fault claimed front) =
    (came : Came) × Tries w seen now exchanges claimed front came (Err records.KeeperFault)
IsStep w seen now exchanges (Full claimed front) =
    (came : Came) × Tries w seen now exchanges claimed front came (Err records.Full)
IsStep w seen now exchanges (Nothing front moment) =
    (exchanges ≡ []) × Goes w.by seen now × (front ≡ length now) × IsNow w.told moment
    × (free_in now moment ≡ [])
IsStep w seen now exchanges Memory =
    ((exchanges ≡ []) × Goes w.by seen now × IsCrowded now) ⊎ GivesUp w seen now exchanges

-- the same, given what the link reported before and after
pub record Steps (w : Setting) (seen now : Log) (before after : Told) (step : Step) : Type 0 where
  pub exchanges : List Exchange
  pub exchanged : HasExchanged before after exchanges
  pub is : IsStep w seen now exchanges step

-- what became of an attempt, given what became of its entry
abbrev pub step_after : ℕ → Came → ℕ → Result (Unit {0}) RecordFault → Step
step_after claimed came front (Ok done) = Sent claimed came front
step_after claimed came front (Err records.KeeperFault) = Fault claimed front
step_after claimed came front (Err records.Full) = Full claimed front
step_after claimed came front (Err records.Memory) = Memory

-- what is reported to a door about a step
abbrev pub rest_of : Step → Rest
rest_of (Sent claimed came front) = rests.Tried claimed
rest_of (Fault claimed front) = rests.Tried claimed
rest_of (Full claimed front) = rests.Tried claimed
rest_of (Nothing front moment) = rests.Nothing front moment
rest_of Memory = rests.Lost

-- ---- turns of an attempt

-- a delivery is taken up, or there is none, at a log of this length that extends what was seen
abbrev pub TakesUpInTurn : Option ℕ → ℕ → Log → Log → ℕ
    → Result (Option Sending) AllocError → Type 0
TakesUpInTurn by moment seen now front result =
    (log : Log) × Goes by seen log × (front ≡ length log) × TakesUp by moment log now result

-- the delivery is released
abbrev pub ReleasesInTurn : Option ℕ → Log → Log → Pair → Type 0
ReleasesInTurn by seen now p =
    (back : Log) × Goes by seen back × (now ≡ back ++ made_by by (Released p) ∷ [])

-- the outcome of an attempt is recorded, or not, at a log of this length
abbrev pub RecordsInTurn : Base → Option ℕ → Log → Log → Pair → Came → ℕ → ℕ
    → Result (Unit {0}) RecordFault → Type 0
RecordsInTurn b by seen now p came moment front result =
    (back : Log) × Goes by seen back × (front ≡ length back)
    × Records b by back now p came moment result
