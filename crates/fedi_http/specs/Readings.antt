-- How the parts of a body in chunks are read (RFC 9112, section 7.1).
use Rattle.std.specs.Prelude.{ℕ, ◌≡◌, ◌<◌, ◌≤◌, Bool, true, false, List, ◌++◌, length, drop, Option}
use Rattle.std.specs.Prelude.{Result, MatchOption, MatchResult}
use Rattle.fedi_town.specs.declared.refusal.Refusal.{Refusal}
use Rattle.fedi_town.specs.declared.refusal.Refusal.TheVariants.{BadHead}
use Rattle.fedi_http.specs.declared.chunks.Line.{Line}
use Rattle.fedi_http.specs.declared.read_error.ReadError.{ReadError}
use Rattle.fedi_http.specs.Chunks.{EndsInCrlf, EndsInData, EndsInLine, HasPartOfLine, HasSize}
use Rattle.fedi_http.specs.Chunks.{HasWrongLine, IsNoCrlf, IsPartOfCrlf, Part, Tells, crlf}
use Rattle.fedi_http.specs.Moves.{Held}

-- the bytes begin with a size line, or with a part of one, or with something else
abbrev pub IsLineIn : List ℕ → Result (Option Line) Refusal → Type 0
IsLineIn bytes result =
    MatchResult result
    (λ found. MatchOption found (HasPartOfLine bytes) (λ line. (line.length ≤ length bytes)
    × HasSize bytes line.size (drop line.length bytes)))
    (λ refusal. (refusal ≡ BadHead) × HasWrongLine bytes)

-- a size line was read
abbrev pub IsLineRead : List ℕ → Result ℕ ReadError → List ℕ → Type 0
IsLineRead bytes result rest =
    MatchResult result (λ size. HasSize bytes size rest) (λ e. Tells e (EndsInLine bytes))

-- this many bytes came before what is pending now, and were joined to the body
pub record HasContent (size : ℕ) (bytes : List ℕ) (old new : Held) : Type 0 where
  pub content : List ℕ
  pub long : length content ≡ size
  pub bytes_are : bytes ≡ content ++ new.pending
  pub joined : new.body ≡ old.body ++ content

-- this many bytes were read, and joined to the body
abbrev pub IsContentRead : {T : Type 0} → ℕ → List ℕ → Result T ReadError → Held → Held → Type 0
IsContentRead size bytes result old new =
    MatchResult result (λ _. HasContent size bytes old new)
    (λ e. Tells e (λ o. (o ≡ Part) × (length bytes < size)))

-- the bytes begin with CR LF, or are only a part of it
abbrev pub IsCrlfFound : List ℕ → Bool → Type 0
IsCrlfFound bytes true = (2 ≤ length bytes) × (bytes ≡ crlf ++ drop 2 bytes)
IsCrlfFound bytes false = (length bytes < 2) × IsPartOfCrlf bytes

-- the same, or the bytes begin with something else
abbrev pub IsCrlfIn : List ℕ → Result Bool Refusal → Type 0
IsCrlfIn bytes result =
    MatchResult result (IsCrlfFound bytes) (λ refusal. (refusal ≡ BadHead) × IsNoCrlf bytes)

-- CR LF was read
abbrev pub IsCrlfRead : {T : Type 0} → List ℕ → Result T ReadError → List ℕ → Type 0
IsCrlfRead bytes result rest =
    MatchResult result (λ _. bytes ≡ crlf ++ rest) (λ e. Tells e (EndsInCrlf bytes))

-- this many bytes and CR LF came before what is pending now, and the bytes were joined to the body
pub record HasData (size : ℕ) (bytes : List ℕ) (old new : Held) : Type 0 where
  pub content : List ℕ
  pub long : length content ≡ size
  pub bytes_are : bytes ≡ content ++ (crlf ++ new.pending)
  pub joined : new.body ≡ old.body ++ content

-- the data of a chunk and the CR LF after it were read
abbrev pub IsDataRead : {T : Type 0} → ℕ → List ℕ → Result T ReadError → Held → Held → Type 0
IsDataRead size bytes result old new =
    MatchResult result (λ _. HasData size bytes old new) (λ e. Tells e (EndsInData size bytes))
