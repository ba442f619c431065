-- What a head is read as, by the positions of its parts in the text.
use Rattle.std.specs.Prelude.{ℕ, List, Option}
use Rattle.httparse.specs.Spans.{span_bytes}
use Rattle.httparse.specs.declared.spans.HeaderSpan.{HeaderSpan}
use Rattle.httparse.specs.declared.spans.RequestSpans.{RequestSpans}
use Rattle.fedi_town.specs.declared.refusal.Refusal.{Refusal}
use Rattle.fedi_model.specs.declared.request.Request.{Request}
use Rattle.fedi_model.specs.Requests.{fields_at, refusal_with, request_with}

-- why the head at these positions is refused, if it is
abbrev pub refusal_by : List ℕ → RequestSpans → List HeaderSpan → Option Refusal
refusal_by text head spans =
    refusal_with (span_bytes text head.method) (span_bytes text head.path) head.version
    (fields_at text spans)

-- the request of the head at these positions
abbrev pub request_by : List ℕ → RequestSpans → List HeaderSpan → Request
request_by text head spans =
    request_with (span_bytes text head.method) (span_bytes text head.path) head.version
    (fields_at text spans)
