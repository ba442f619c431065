-- A body in a stream: by its length, or in chunks (RFC 9112, sections 6 and 7.1).
use Rattle.std.specs.Prelude.{ℕ, ◌≡◌, ◌≢◌, ◌-◌, ◌<◌, ◌≤◌, Bool, true, false, ◌||◌, bytes_eq, List}
use Rattle.std.specs.Prelude.{[], ◌∷◌, ◌++◌, length, take, drop, Result, MatchResult, ◌⊎◌}
use Rattle.std.specs.List.{flat_map, AllByRecursion}
use Rattle.httparse.specs.Grammar.{ChunkLine, IsChunkLine, ReadsChunkLine, HasNoChunkLine}
use Rattle.httparse.specs.Grammar.{NeverHasChunkLine, MayBecomeChunkLine, print_chunk_line}
use Rattle.httparse.specs.Grammar.{chunk_size}
use Rattle.fedi_town.specs.declared.refusal.Refusal.TheVariants.{BadHead, TooLong}
use Rattle.fedi_model.specs.declared.request.Coding.{Coding}
use Rattle.fedi_model.specs.declared.request.Coding.TheVariants.{Length, Chunked}
use Rattle.fedi_http.specs.declared.chunks.TheConstants.{LINE_LIMIT, TRAILER_LIMIT}
use Rattle.fedi_http.specs.declared.read_error.ReadError.{ReadError}
use Rattle.fedi_http.specs.declared.read_error.ReadError.TheVariants as errors
use Rattle.fedi_http.specs.Heads.{ends_in_empty_line}

-- how something that is read from bytes ends: it is whole, it is malformed, it is too long to be
-- read, or the bytes end in it
pub data Ending : Type 0 where
  Whole : Ending
  Wrong : Ending
  Long : Ending
  Part : Ending

-- what an error says about the ending: memory is needed only for more bytes, as long as nothing is
-- wrong
abbrev pub Tells : ReadError → (Ending → Type 0) → Type 0
Tells errors.End P = ⊥
Tells errors.CutShort P = P Part
Tells (errors.Refused refusal) P = ((refusal ≡ BadHead) × P Wrong) ⊎ ((refusal ≡ TooLong) × P Long)
Tells errors.ReadFault P = P Part
Tells errors.Memory P = P Part

-- what a result says about the ending
abbrev pub TellsEnding : {T : Type 0} → Result T ReadError → (Ending → Type 0) → Type 0
TellsEnding result P = MatchResult result (λ _. P Whole) (λ e. Tells e P)

-- ---- chunks

-- CR LF
abbrev pub crlf : List ℕ
crlf = 13 ∷ 10 ∷ []

-- a chunk: its line and its data
pub record Chunk : Type 0 where
  pub line : ChunkLine
  pub content : List ℕ

-- the bytes of a chunk: the line, the data, and CR LF
abbrev pub print_chunk : Chunk → List ℕ
print_chunk c = print_chunk_line c.line ++ (c.content ++ crlf)

-- the line of a chunk is short and gives the length of the data, which is not empty
pub record IsChunk (c : Chunk) : Type 0 where
  pub line : IsChunkLine c.line
  pub short : length (print_chunk_line c.line) ≤ LINE_LIMIT
  pub size : length c.content ≡ chunk_size c.line
  pub some : 0 < length c.content

-- the bytes of chunks, one after the other
abbrev pub print_chunks : List Chunk → List ℕ
print_chunks chunks = flat_map print_chunk chunks

-- the data of chunks, joined
abbrev pub content_of : List Chunk → List ℕ
content_of chunks = flat_map (λ c. c.content) chunks

-- the bytes are these chunks followed by the rest, and the data of the chunks has at most `limit`
-- bytes
pub record HasChunks (limit : ℕ) (bytes : List ℕ) (chunks : List Chunk)
    (rest : List ℕ) : Type 0 where
  pub each : AllByRecursion IsChunk chunks
  pub bytes_are : bytes ≡ print_chunks chunks ++ rest
  pub within : length (content_of chunks) ≤ limit

-- ---- a size line

-- a line of at most `LINE_LIMIT` bytes, followed by the rest
abbrev pub HasLine : List ℕ → ChunkLine → List ℕ → Type 0
HasLine bytes l rest = ReadsChunkLine bytes l rest × (length (print_chunk_line l) ≤ LINE_LIMIT)

-- the line says that this many bytes of data follow
abbrev pub HasSize : List ℕ → ℕ → List ℕ → Type 0
HasSize bytes size rest = (l : ChunkLine) × HasLine bytes l rest × (size ≡ chunk_size l)

-- no line can end in the first `LINE_LIMIT` bytes, whatever follows
abbrev pub HasWrongLine : List ℕ → Type 0
HasWrongLine bytes =
    NeverHasChunkLine (take LINE_LIMIT bytes)
    ⊎ ((LINE_LIMIT ≤ length bytes) × HasNoChunkLine (take LINE_LIMIT bytes))

-- no line ends here, but one may if more bytes follow
abbrev pub HasPartOfLine : List ℕ → Type 0
HasPartOfLine bytes = (length bytes < LINE_LIMIT) × HasNoChunkLine bytes × MayBecomeChunkLine bytes

-- how a line that is not whole ends
abbrev pub EndsInLine : List ℕ → Ending → Type 0
EndsInLine bytes o = ((o ≡ Wrong) × HasWrongLine bytes) ⊎ ((o ≡ Part) × HasPartOfLine bytes)

-- ---- the data of a chunk, and the CR LF after it

-- the bytes do not begin with CR LF, whatever follows
abbrev pub IsNoCrlf : List ℕ → Type 0
IsNoCrlf [] = ⊥
IsNoCrlf (a ∷ []) = a ≢ 13
IsNoCrlf (a ∷ b ∷ bytes) = (a ≢ 13) ⊎ (b ≢ 10)

-- the bytes are only a part of CR LF
abbrev pub IsPartOfCrlf : List ℕ → Type 0
IsPartOfCrlf [] = Unit {0}
IsPartOfCrlf (a ∷ []) = a ≡ 13
IsPartOfCrlf (a ∷ b ∷ bytes) = ⊥

-- how a CR LF that is not whole ends
abbrev pub EndsInCrlf : List ℕ → Ending → Type 0
EndsInCrlf bytes o = ((o ≡ Wrong) × IsNoCrlf bytes) ⊎ ((o ≡ Part) × IsPartOfCrlf bytes)

-- the data is there, but no CR LF follows it
abbrev pub HasWrongData : ℕ → List ℕ → Type 0
HasWrongData size bytes = (size ≤ length bytes) × IsNoCrlf (drop size bytes)

-- the bytes end in the data, or in the CR LF after it
abbrev pub HasPartOfData : ℕ → List ℕ → Type 0
HasPartOfData size bytes =
    (length bytes < size) ⊎ ((size ≤ length bytes) × IsPartOfCrlf (drop size bytes))

-- how data that is not whole ends
abbrev pub EndsInData : ℕ → List ℕ → Ending → Type 0
EndsInData size bytes o =
    ((o ≡ Wrong) × HasWrongData size bytes) ⊎ ((o ≡ Part) × HasPartOfData size bytes)

-- ---- the trailer

-- an empty line, or lines that end with an empty one; a line ends in LF, which a CR may precede
-- (RFC 9112, sections 2.2 and 7.1.2)
unfoldable pub is_trailer : List ℕ → Bool
is_trailer text =
    bytes_eq text (10 ∷ []) || (bytes_eq text (13 ∷ 10 ∷ []) || ends_in_empty_line text)

-- no prefix of up to `count` bytes is a trailer
abbrev pub LacksTrailer : ℕ → List ℕ → Type 0
LacksTrailer count bytes = (m : ℕ) → m ≤ count → is_trailer (take m bytes) ≡ false

-- the first trailer, of at most `TRAILER_LIMIT` bytes, and the rest
pub record HasTrailer (bytes rest : List ℕ) : Type 0 where
  pub count : ℕ
  pub within : count ≤ length bytes
  pub short : count ≤ TRAILER_LIMIT
  pub ends : is_trailer (take count bytes) ≡ true
  pub first : (m : ℕ) → m < count → is_trailer (take m bytes) ≡ false
  pub rest_is : rest ≡ drop count bytes

-- no trailer ends in the first `TRAILER_LIMIT` bytes
abbrev pub HasWrongTrailer : List ℕ → Type 0
HasWrongTrailer bytes = (TRAILER_LIMIT ≤ length bytes) × LacksTrailer TRAILER_LIMIT bytes

-- no trailer ends here, but one may if more bytes follow
abbrev pub HasPartOfTrailer : List ℕ → Type 0
HasPartOfTrailer bytes = (length bytes < TRAILER_LIMIT) × LacksTrailer (length bytes) bytes

-- how a trailer ends
abbrev pub EndsInTrailer : List ℕ → Ending → List ℕ → Type 0
EndsInTrailer bytes o rest =
    ((o ≡ Whole) × HasTrailer bytes rest)
    ⊎ (((o ≡ Wrong) × HasWrongTrailer bytes) ⊎ ((o ≡ Part) × HasPartOfTrailer bytes))

-- ---- the body

-- how the body ends after a size line: the size is larger than the room left, or it is 0 and the
-- trailer follows, or the data is not whole
abbrev pub EndsBehindSize : ℕ → ℕ → List ℕ → Ending → List ℕ → Type 0
EndsBehindSize room size bytes o rest =
    ((o ≡ Long) × (room < size)) ⊎ (((size ≡ 0) × EndsInTrailer bytes o rest)
    ⊎ ((0 < size) × (size ≤ room) × EndsInData size bytes o))

-- how the body ends where another chunk may begin, whose data has room for this many bytes
abbrev pub IsEndAt : ℕ → List ℕ → Ending → List ℕ → Type 0
IsEndAt room bytes o rest =
    EndsInLine bytes o ⊎ ((size : ℕ) × (tail : List ℕ) × HasSize bytes size tail
    × EndsBehindSize room size tail o rest)

-- a body in chunks followed by the rest, or how a body ends that is not whole (RFC 9112, section
-- 7.1)
pub record HasChunkedBody (limit : ℕ) (bytes : List ℕ) (o : Ending)
    (body rest : List ℕ) : Type 0 where
  pub chunks : List Chunk
  pub at : List ℕ
  pub has : HasChunks limit bytes chunks at
  pub ends : IsEndAt (limit - length (content_of chunks)) at o rest
  pub joined : o ≡ Whole → body ≡ content_of chunks

-- a body of this many bytes followed by the rest, or the bytes end in it (RFC 9112, section 6.2)
abbrev pub HasMeasuredBody : ℕ → List ℕ → Ending → List ℕ → List ℕ → Type 0
HasMeasuredBody size bytes o body rest =
    ((o ≡ Whole) × (length body ≡ size) × (bytes ≡ body ++ rest))
    ⊎ ((o ≡ Part) × (length bytes < size))

-- a body with this coding, whose chunks have at most `limit` bytes (RFC 9112, section 6.3)
abbrev pub HasBody : ℕ → Coding → List ℕ → Ending → List ℕ → List ℕ → Type 0
HasBody limit (Length size) bytes o body rest = HasMeasuredBody size bytes o body rest
HasBody limit Chunked bytes o body rest = HasChunkedBody limit bytes o body rest

-- the bytes end in such a body
abbrev pub HasPartOfBody : ℕ → Coding → List ℕ → Type 0
HasPartOfBody limit coding bytes =
    (body : List ℕ) × (rest : List ℕ) × HasBody limit coding bytes Part body rest
