-- What a connection reads and writes, request by request (RFC 9112, sections 2.2, 9.3 and 9.6),
-- over a log that others may add to too.
use Rattle.std.specs.Prelude.{◌≡◌, ◌⊎◌, ℕ, ◌+◌, ◌-◌, ◌≤◌, min, nat_le, Bool, false, true, not, ◌||◌}
use Rattle.std.specs.Prelude.{List, [], ◌∷◌, ◌++◌, length, Option, Some, None, Result, Ok, Err}
use Rattle.std.specs.List.{flat_map, fold}
use Rattle.fedi_town.specs.declared.refusal.Refusal.{Refusal}
use Rattle.fedi_town.specs.declared.refusal.Refusal.TheVariants.{JournalFull, KeeperFault}
use Rattle.fedi_entry.specs.Codes.{code_of}
use Rattle.fedi_http.specs.Arrivals.{IsArrival}
use Rattle.fedi_http.specs.declared.arrivals.Arrived.{Arrived}
use Rattle.fedi_http.specs.declared.arrivals.Arrived.TheVariants as arrivals
use Rattle.fedi_http.specs.declared.heads.TheConstants.{HEAD_LIMIT}
use Rattle.fedi_http.specs.declared.requests.TheConstants.{MOST_FIELDS}
use Rattle.fedi_log.specs.Keeping.{Base, end_of}
use Rattle.fedi_log.specs.Log.{Log, Goes, Outcome, NoEntry, Kept, Full, Failed, failed_in}
use Rattle.fedi_log.specs.Log.{history_of, items_of}
use Rattle.fedi_model.specs.declared.reply.Reply.{Reply}
use Rattle.fedi_model.specs.declared.request.Request.{Request}
use Rattle.fedi_model.specs.Answers.{Answers, IsPrivateAnswer}
use Rattle.fedi_model.specs.Cleanness.{IsCleanBody}
use Rattle.fedi_town.specs.Histories.{town}
use Rattle.fedi_model.specs.Refusing.{refused}
use Rattle.fedi_model.specs.ReplyText.{reply_text}
use Rattle.fedi_objects.specs.declared.entry.Entry.{Entry}
use Rattle.fedi_outside.specs.Keepers.{HasRoom, IsFull}

-- ---- the parts of a conversation

-- what stays the same: the number of the pass that serves the connection, if others add to the log
-- too, the time that the clock gives, if it is known, and the keeper at the opening
pub record Setting : Type 0 where
  pub by : Option ℕ
  pub told : Option ℕ
  pub base : Base

-- a request with its body, or why the bytes there are not a request; the bytes after it; the log at
-- which it was answered; and how
pub record Exchange : Type 0 where
  pub arrived : Result Request Refusal
  pub body : List ℕ
  pub rest : List ℕ
  pub log : Log
  pub moment : ℕ
  pub outcome : Outcome
  pub reply : Reply

-- what has been read and written so far
pub record Progress : Type 0 where
  pub left : List ℕ  -- the input that is not answered yet
  pub written : List ℕ
  pub log : Log  -- the log that was seen
  pub count : ℕ  -- how many requests were answered
  pub closed : Bool  -- whether the last reply closed the connection

-- ---- one exchange

-- the moment that a clock gives, or the last moment if that is later
abbrev pub IsNow : Option ℕ → ℕ → Type 0
IsNow None moment = moment ≤ 253402300799
IsNow (Some told) moment = moment ≡ min told 253402300799

-- The keeper decides between the machine's reply, which is given if the entry is kept or there is
-- none, and the two replies that report on the keeper.
abbrev pub Settles : (ℕ → ℕ) → ℕ → Reply → Option Entry → Outcome → Reply → Type 0
Settles room end r None NoEntry given = given ≡ r
Settles room end r None (Kept e) given = ⊥
Settles room end r None (Full e) given = ⊥
Settles room end r None (Failed e) given = ⊥
Settles room end r (Some made) NoEntry given = ⊥
Settles room end r (Some made) (Kept e) given =
    (e ≡ made) × HasRoom room end (length (code_of made)) × (given ≡ r)
Settles room end r (Some made) (Full e) given =
    (e ≡ made) × IsFull room end (length (code_of made)) × (given ≡ refused JournalFull)
Settles room end r (Some made) (Failed e) given =
    (e ≡ made) × HasRoom room end (length (code_of made)) × (given ≡ refused KeeperFault)

-- the reply is that of each legal history that gives the request the same caller and agrees with
-- this one for that caller, or it reports on the keeper
abbrev pub IsPrivateReply : List Entry → ℕ → Request → List ℕ → Reply → Type 0
IsPrivateReply history moment q body given =
    IsPrivateAnswer history moment q body given
    ⊎ ((given ≡ refused JournalFull) ⊎ (given ≡ refused KeeperFault))

-- the request with this body is answered at this history and this end of the keeper: with the
-- machine's reply, or with one that reports on the keeper
pub record IsReply (room : ℕ → ℕ) (history : List Entry) (end moment : ℕ) (q : Request)
    (body : List ℕ) (outcome : Outcome) (given : Reply) : Type 0 where
  pub answer : (r : Reply) × (made : Option Entry) × Answers (town history) moment q body r made
      × Settles room end r made outcome given
  pub private : IsPrivateReply history moment q body given
  pub clean : IsCleanBody given.body

-- what arrived is a request, which is answered at this log, or something that is not, which is
-- refused
abbrev pub IsAnswered : Base → Log → ℕ → Result Request Refusal → List ℕ → Outcome → Reply → Type 0
IsAnswered b log moment (Ok q) body outcome given =
    IsReply b.room (history_of log) (end_of b log) moment q body outcome given
IsAnswered b log moment (Err e) body outcome given = (outcome ≡ NoEntry) × (given ≡ refused e)

-- the remaining input begins with this, which is not a request
abbrev pub StandsAtFront : List ℕ → Arrived → Type 0
StandsAtFront left arrived = IsArrival HEAD_LIMIT MOST_FIELDS left arrived [] []

-- the input is a request with this body, followed by these bytes, or it is refused: then nothing
-- after that is examined
abbrev pub Arrives : List ℕ → Result Request Refusal → List ℕ → List ℕ → Type 0
Arrives left (Ok q) body rest = IsArrival HEAD_LIMIT MOST_FIELDS left (arrivals.Request q) body rest
Arrives left (Err e) body rest =
    StandsAtFront left (arrivals.Refused e) × (body ≡ []) × (rest ≡ left)

-- the next exchange, on a connection that is open: it is answered at a log that extends the one
-- that was seen
pub record IsExchange (w : Setting) (p : Progress) (x : Exchange) : Type 0 where
  pub open_yet : p.closed ≡ false
  pub arrival : Arrives p.left x.arrived x.body x.rest
  pub now : IsNow w.told x.moment
  pub later : Goes w.by p.log x.log
  pub reply : IsAnswered w.base x.log x.moment x.arrived x.body x.outcome x.reply

-- ---- what follows an exchange

-- the most requests that one connection serves
abbrev pub most_requests : ℕ
most_requests = 1000

-- a request that asks to close the connection, as HTTP/1.0 always does, or that is refused, is the
-- last on it (RFC 9112, sections 9.3 and 9.6)
abbrev pub ends_by : Result Request Refusal → Bool
ends_by (Ok q) = not q.keep_alive
ends_by (Err e) = true

-- and so is the thousandth request
abbrev pub closes : ℕ → Result Request Refusal → Bool
closes count arrived = ends_by arrived || nat_le (most_requests - 1) count

-- the reply has no body: its request asks for none (RFC 9110, section 9.3.2); the reply to what is
-- not a request gives the reason in full
abbrev pub is_head_only : Result Request Refusal → Bool
is_head_only (Ok q) = q.head_only
is_head_only (Err e) = false

-- the text that is written
abbrev pub text_of : ℕ → Exchange → List ℕ
text_of count x = reply_text x.moment (is_head_only x.arrived) (closes count x.arrived) x.reply

-- the progress after one more exchange
abbrev pub after : Setting → Progress → Exchange → Progress
after w p x = record {
  left = x.rest;
  written = p.written ++ text_of p.count x;
  log = x.log ++ items_of w.by x.outcome;
  count = p.count + 1;
  closed = closes p.count x.arrived;
}

-- ---- conversations

-- each exchange is the next one after those before it
abbrev pub Converses : Setting → Progress → List Exchange → Type 0
Converses w p [] = Unit {0}
Converses w p (x ∷ xs) = IsExchange w p x × Converses w (after w p x) xs

-- before the first exchange, over a log that was seen
abbrev pub beginning : List ℕ → Log → Progress
beginning input seen = record { left = input; written = []; log = seen; count = 0; closed = false }

-- after these exchanges
abbrev pub progress : Setting → Progress → List Exchange → Progress
progress w p xs = fold (after w) p xs

-- all of the input was answered, up to the reply that closed the connection
abbrev pub IsOver : Progress → Type 0
IsOver p = (p.closed ≡ true) ⊎ ((p.closed ≡ false) × StandsAtFront p.left arrivals.End)

-- what is left of the input ends inside a request
abbrev pub IsCutShort : Progress → Type 0
IsCutShort p = (p.closed ≡ false) × StandsAtFront p.left arrivals.CutShort

-- nothing more is answered
abbrev pub IsAtEnd : Progress → Type 0
IsAtEnd p = IsOver p ⊎ IsCutShort p

-- a conversation over a log, after what was seen of it
pub record Conversation (w : Setting) (seen log : Log) (input written : List ℕ)
    (xs : List Exchange) : Type 0 where
  pub each : Converses w (beginning input seen) xs
  pub later : Goes w.by (progress w (beginning input seen) xs).log log
  pub written_is : written ≡ (progress w (beginning input seen) xs).written

-- ---- properties of conversations

-- the keeper did not fail
abbrev pub IsCalm : Outcome → Type 0
IsCalm NoEntry = Unit {0}
IsCalm (Kept e) = Unit {0}
IsCalm (Full e) = Unit {0}
IsCalm (Failed e) = ⊥

-- the keeper failed at none of these
abbrev pub AreCalm : List Exchange → Type 0
AreCalm [] = Unit {0}
AreCalm (x ∷ xs) = IsCalm x.outcome × AreCalm xs

-- each is answered at the log that the one before it left
abbrev pub NoGaps : Setting → Progress → List Exchange → Type 0
NoGaps w p [] = Unit {0}
NoGaps w p (x ∷ xs) = (x.log ≡ p.log) × NoGaps w (after w p x) xs

-- the position in the log at which a request was answered
abbrev pub front : Exchange → ℕ
front x = length x.log

-- the items that these added
abbrev pub own_items : Option ℕ → List Exchange → Log
own_items by xs = flat_map (λ (x : Exchange). items_of by x.outcome) xs

-- the entries that the keeper failed to keep
abbrev pub failures : List Exchange → List Entry
failures xs = flat_map (λ (x : Exchange). failed_in x.outcome) xs

-- the log begins with that of the exchange and with the item that it added
abbrev pub IsAtFront : Option ℕ → Log → Exchange → Type 0
IsAtFront by log x = (rest : Log) × (log ≡ (x.log ++ items_of by x.outcome) ++ rest)

-- each of these exchanges is in the log in this way
abbrev pub AreAtFronts : Option ℕ → Log → List Exchange → Type 0
AreAtFronts by log [] = Unit {0}
AreAtFronts by log (x ∷ xs) = IsAtFront by log x × AreAtFronts by log xs

-- no two share an item, and the positions never go back
abbrev pub StandApart : Option ℕ → ℕ → List Exchange → Type 0
StandApart by at [] = Unit {0}
StandApart by at (x ∷ xs) =
    (at ≤ front x) × StandApart by (front x + length (items_of by x.outcome)) xs
