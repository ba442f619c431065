-- What arrives at the front of a stream: a request with its body and the rest (RFC 9112, sections
-- 2.1, 2.2 and 6), or why there is no request.
use Rattle.std.specs.Prelude.{ℕ, Bool, true, false, ◌≡◌, ◌<◌, List, [], length, drop, Result, Ok}
use Rattle.std.specs.Prelude.{Err, ◌⊎◌}
use Rattle.std.specs.List.{slice_range}
use Rattle.fedi_town.specs.declared.refusal.Refusal.{Refusal}
use Rattle.fedi_town.specs.declared.refusal.Refusal.TheVariants.{BadHead, HeadTooLong, TooLong}
use Rattle.fedi_model.specs.declared.request.Request.{Request}
use Rattle.fedi_model.specs.declared.request.TheConstants.{BODY_LIMIT}
use Rattle.fedi_model.specs.Requests.{ReadsAs}
use Rattle.fedi_http.specs.declared.arrivals.Arrived.{Arrived}
use Rattle.fedi_http.specs.declared.arrivals.Arrived.TheVariants as arrived
use Rattle.fedi_http.specs.declared.read_error.ReadError.{ReadError}
use Rattle.fedi_http.specs.declared.read_error.ReadError.TheVariants as errors
use Rattle.fedi_http.specs.Chunks.{Ending, HasBody, Long, Part, Whole, Wrong}
use Rattle.fedi_http.specs.Heads.{IsHeadAt, LacksHead, HasLongHead}

-- the head in the first `limit` bytes takes `end` of them, and its text is read with this outcome
pub record HasHead (limit most : ℕ) (bytes : List ℕ) (outcome : Result Request Refusal)
    (end : ℕ) : Type 0 where
  pub start : ℕ
  pub head : IsHeadAt limit bytes start end
  pub reads : ReadsAs most (slice_range bytes start end) outcome

-- a head is read as this request, and its body follows, with this ending (RFC 9112, section 6)
pub record HasRequest (limit most : ℕ) (bytes : List ℕ) (request : Request) (o : Ending)
    (body rest : List ℕ) : Type 0 where
  pub end : ℕ
  pub head : HasHead limit most bytes (Ok request) end
  pub content : HasBody BODY_LIMIT request.coding (drop end bytes) o body rest

-- the body after the head of some request has this ending
abbrev pub BodyEnds : ℕ → ℕ → List ℕ → Ending → Type 0
BodyEnds limit most bytes o =
    (request : Request) × (body : List ℕ) × (rest : List ℕ)
    × HasRequest limit most bytes request o body rest

-- a head is read as some request: it is not refused
abbrev pub HasServedHead : ℕ → ℕ → List ℕ → Type 0
HasServedHead limit most bytes =
    (request : Request) × (end : ℕ) × HasHead limit most bytes (Ok request) end

-- the bytes hold neither a whole request nor one that is refused, but may do so with more bytes:
-- they end in the head or in the body
abbrev pub LacksRequest : ℕ → ℕ → List ℕ → Type 0
LacksRequest limit most bytes = LacksHead limit bytes ⊎ BodyEnds limit most bytes Part

-- the head is refused for this reason; it is too long if no head ends in the first `limit` bytes
abbrev pub IsHeadRefused : ℕ → ℕ → List ℕ → Refusal → Type 0
IsHeadRefused limit most bytes refusal =
    ((end : ℕ) × HasHead limit most bytes (Err refusal) end)
    ⊎ ((refusal ≡ HeadTooLong) × HasLongHead limit bytes)

-- the request is refused for this reason: its head is refused, or its body is malformed or too long
abbrev pub IsRefused : ℕ → ℕ → List ℕ → Refusal → Type 0
IsRefused limit most bytes refusal =
    IsHeadRefused limit most bytes refusal
    ⊎ (((refusal ≡ BadHead) × BodyEnds limit most bytes Wrong)
    ⊎ ((refusal ≡ TooLong) × BodyEnds limit most bytes Long))

-- what arrives at the front of the bytes, if a head takes at most `limit` bytes and has at most
-- `most` lines; if it is a request, its body, and the rest; memory is not needed for a head that is
-- refused
abbrev pub IsArrival : ℕ → ℕ → List ℕ → Arrived → List ℕ → List ℕ → Type 0
IsArrival limit most bytes (arrived.Request request) body rest =
    HasRequest limit most bytes request Whole body rest
IsArrival limit most bytes arrived.End body rest = bytes ≡ []
IsArrival limit most bytes arrived.CutShort body rest =
    (0 < length bytes) × LacksRequest limit most bytes
IsArrival limit most bytes (arrived.Refused refusal) body rest = IsRefused limit most bytes refusal
IsArrival limit most bytes arrived.ReadFault body rest = LacksRequest limit most bytes
IsArrival limit most bytes arrived.Memory body rest =
    LacksHead limit bytes ⊎ HasServedHead limit most bytes

-- a fact for the answers that occur at the end of the input
abbrev pub OnInputEnd : Arrived → Type 0 → Type 0
OnInputEnd (arrived.Request request) P = Unit {0}
OnInputEnd arrived.End P = P
OnInputEnd arrived.CutShort P = P
OnInputEnd (arrived.Refused refusal) P = Unit {0}
OnInputEnd arrived.ReadFault P = Unit {0}
OnInputEnd arrived.Memory P = Unit {0}

-- the answer says what the stream has at its front
abbrev pub TellsOfStream : Arrived → Type 0
TellsOfStream (arrived.Request request) = Unit {0}
TellsOfStream arrived.End = Unit {0}
TellsOfStream arrived.CutShort = Unit {0}
TellsOfStream (arrived.Refused refusal) = Unit {0}
TellsOfStream arrived.ReadFault = ⊥
TellsOfStream arrived.Memory = ⊥

-- a fact for a request
abbrev pub OnRequest : Arrived → Type 0 → Type 0
OnRequest (arrived.Request request) P = P
OnRequest arrived.End P = Unit {0}
OnRequest arrived.CutShort P = Unit {0}
OnRequest (arrived.Refused refusal) P = Unit {0}
OnRequest arrived.ReadFault P = Unit {0}
OnRequest arrived.Memory P = Unit {0}

-- a read failed
abbrev pub is_read_fault : Arrived → Bool
is_read_fault (arrived.Request request) = false
is_read_fault arrived.End = false
is_read_fault arrived.CutShort = false
is_read_fault (arrived.Refused refusal) = false
is_read_fault arrived.ReadFault = true
is_read_fault arrived.Memory = false

-- the answer that reports the error
abbrev pub arrived_by : ReadError → Arrived
arrived_by errors.End = arrived.End
arrived_by errors.CutShort = arrived.CutShort
arrived_by (errors.Refused refusal) = arrived.Refused refusal
arrived_by errors.ReadFault = arrived.ReadFault
arrived_by errors.Memory = arrived.Memory

-- the answer that reports this result
abbrev pub arrived_of : Result Request ReadError → Arrived
arrived_of (Ok request) = arrived.Request request
arrived_of (Err error) = arrived_by error
