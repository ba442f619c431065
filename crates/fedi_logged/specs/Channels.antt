-- What is received from a channel, which requests come from and replies go to.
use Rattle.std.specs.Prelude.{◌≡◌, ℕ, List, ◌++◌, Option, Some, IfSome, if◌then◌else◌}
use Rattle.std.specs.Io.KnownBytes.{Consumes, prepend_known}
use Rattle.fedi_http.specs.Arrivals.{IsArrival, OnRequest, TellsOfStream, is_read_fault}
use Rattle.fedi_http.specs.declared.arrivals.Arrived.{Arrived}
use Rattle.fedi_http.specs.declared.heads.TheConstants.{HEAD_LIMIT}
use Rattle.fedi_http.specs.declared.requests.TheConstants.{MOST_FIELDS}
use Rattle.fedi_outside.specs.Causes.{next_count}

-- these bytes are left of the ones to be read, those pending and those to come
abbrev pub StandsIn : List ℕ → Option (List ℕ) → List ℕ → Type 0
StandsIn pending input left = prepend_known pending input ≡ Some left

-- the answer is what the stream begins with, if it says anything about the stream, and what comes
-- after a request is then pending or still to come
abbrev pub TellsStream : Arrived → List ℕ → List ℕ → Option (List ℕ) → List ℕ → Type 0
TellsStream arrived body pending input stream =
    TellsOfStream arrived
    → (rest : List ℕ) × IsArrival HEAD_LIMIT MOST_FIELDS stream arrived body rest
    × OnRequest arrived (StandsIn pending input rest)

-- the same if the stream is known: what was pending, followed by what was to come
abbrev pub TellsIfTold : List ℕ → Option (List ℕ) → Arrived → List ℕ → List ℕ
    → Option (List ℕ) → Type 0
TellsIfTold old before arrived body pending input =
    IfSome (prepend_known old before) (TellsStream arrived body pending input)

-- what was pending, followed by the bytes that were taken, begins with this
pub record Takes (old : List ℕ) (before after : Option (List ℕ)) (arrived : Arrived)
    (body pending : List ℕ) : Type 0 where
  pub more : List ℕ
  pub taken : Consumes before after more
  pub holds : IsArrival HEAD_LIMIT MOST_FIELDS (old ++ more) arrived body pending

-- the count of failed reads after this answer
abbrev pub reads_after : ℕ → Arrived → ℕ
reads_after count arrived = if is_read_fault arrived then next_count count else count
