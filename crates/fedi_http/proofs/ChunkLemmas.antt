-- Lemmas on bodies in chunks.
use Rattle.std.proofs.Common.{◌≡◌, ℕ, zero, suc, ◌+◌, ◌-◌, ◌<◌, ◌≤◌, min, Bool, false, List, [], ◌∷◌, ◌++◌, length, take, drop, Option, Result, Ok, Err, inl, inr, refl, sym, ap, subst, ◌∙◌, arith, append_assoc, append-nil, length-append, length-take, length-take-le}
use Rattle.std.proofs.lemmas.List.{take-append-drop, take_all, take-append-le, drop-append-le, take-take, drop_all, take_min, flat_map_more}
use Rattle.std.specs.List.{AllByRecursion}
use Rattle.httparse.specs.Grammar.{ChunkLine, print_chunk_line}
use Rattle.httparse.specs.Spans.{IsChunkLineAt}
use Rattle.fedi_model.specs.declared.request.Coding.TheVariants.{Chunked}
use Rattle.fedi_http.specs.declared.chunks.TheConstants.{LINE_LIMIT, TRAILER_LIMIT}
use Rattle.fedi_town.specs.declared.refusal.Refusal.TheVariants.{TooLong}
use Rattle.fedi_http.specs.declared.read_error.ReadError.{ReadError}
use Rattle.fedi_http.specs.declared.read_error.ReadError.TheVariants.{Refused}
use Rattle.fedi_http.specs.Chunks.{Chunk, EndsBehindSize, EndsInCrlf, EndsInData, EndsInLine, EndsInTrailer, Ending, HasBody, HasChunkedBody, HasChunks, HasPartOfBody, HasPartOfData, HasPartOfLine, HasPartOfTrailer, HasSize, IsChunk, IsNoCrlf, IsPartOfCrlf, LacksTrailer, Long, Part, Tells, TellsEnding, Whole, Wrong, content_of, crlf, is_trailer, print_chunk, print_chunks}
use Rattle.fedi_http.specs.Moves.{Held, Reads, StopsReading, is_fault}
use Rattle.fedi_http.specs.Readings.{HasContent, HasData, IsCrlfRead, IsDataRead}
use Rattle.fedi_http.proofs.ReadLemmas.{part_told, reads_as, reads_none, reads_on, told_as}

-- ---- a line

pub line-found : (bytes : List ℕ) (k len size : ℕ) (l : ChunkLine) → k ≤ LINE_LIMIT → IsChunkLineAt (take k bytes) len size l
    → (len ≤ length bytes) × HasSize bytes size (drop len bytes)
line-found bytes k len size l few at =
    let line = print_chunk_line l in
    let lengths : length (take k bytes) ≡ length line + length (drop len (take k bytes)) = ap length at.reads.1 ∙ length-append line (drop len (take k bytes)) in
    let short : len ≤ k = omega (arith, lengths, length-take k bytes, at.len_is) in
    let within : len ≤ length bytes = omega (arith, lengths, length-take k bytes, at.len_is) in
    let text : take len bytes ≡ line =
    sym (take-take len k bytes short)
    ∙ ap (take len) at.reads.1
    ∙ ap (λ n. take n (line ++ drop len (take k bytes))) at.len_is
    ∙ take-append-le (length line) line (drop len (take k bytes)) (omega arith)
    ∙ take_all (length line) line (omega arith) in
    (within, (l, ((at.reads.0, sym (take-append-drop len bytes) ∙ ap (λ (x : List ℕ). x ++ drop len bytes) text), omega (arith, at.len_is)), at.size_is))

-- what holds of the first k bytes holds of the first `LINE_LIMIT`
pub line-front : (bytes : List ℕ) (k : ℕ) (P : List ℕ → Type 0) → k ≡ min (length bytes) LINE_LIMIT → P (take k bytes) → P (take LINE_LIMIT bytes)
line-front bytes k P is holds =
    let same : k ≡ min LINE_LIMIT (length bytes) = omega (arith, is) in
    subst P (ap (λ n. take n bytes) same ∙ take_min LINE_LIMIT bytes) holds

-- ---- data

-- of `size` bytes of data, those that were joined to the body, and how many are still wanted
pub record IsJoining (size wanted : ℕ) (old : Held) (bytes : List ℕ) (now : Held) : Type 0 where
  pub content : List ℕ
  pub count : length content + wanted ≡ size
  pub bytes_are : bytes ≡ content ++ now.pending
  pub joined : now.body ≡ old.body ++ content

-- n more bytes were joined
pub joining_more : (size wanted n : ℕ) (old : Held) (bytes : List ℕ) (now join : Held) → n ≤ wanted → n ≤ length now.pending → IsJoining size wanted old bytes now
    → join.body ≡ now.body ++ take n now.pending → join.pending ≡ drop n now.pending → IsJoining size (wanted - n) old bytes join
joining_more size wanted n old bytes now join few there so moved rest =
    let part = take n now.pending in
    let pending : part ++ join.pending ≡ now.pending = ap (λ (l : List ℕ). part ++ l) rest ∙ take-append-drop n now.pending in
    record {
      content = so.content ++ part;
      count = omega (arith, so.count, length-append so.content part, length-take-le n now.pending there);
      bytes_are = so.bytes_are ∙ ap (λ (l : List ℕ). so.content ++ l) (sym pending) ∙ sym (append_assoc so.content part join.pending);
      joined = moved ∙ ap (λ (l : List ℕ). l ++ part) so.joined ∙ append_assoc old.body so.content part;
    }

-- more bytes were read after these
pub joining-append : (size wanted : ℕ) (old : Held) (bytes more : List ℕ) (now new : Held) → IsJoining size wanted old bytes now → new.pending ≡ now.pending ++ more
    → new.body ≡ now.body → IsJoining size wanted old (bytes ++ more) new
joining-append size wanted old bytes more now new so read kept = record {
  content = so.content;
  count = so.count;
  bytes_are = ap (λ (l : List ℕ). l ++ more) so.bytes_are ∙ append_assoc so.content now.pending more ∙ ap (λ (l : List ℕ). so.content ++ l) (sym read);
  joined = kept ∙ so.joined;
}

-- not all of it is there
pub joining_short : (size wanted : ℕ) (old : Held) (bytes : List ℕ) (now : Held) → IsJoining size wanted old bytes now → length now.pending < wanted → length bytes < size
joining_short size wanted old bytes now so short = omega (arith, so.count, ap length so.bytes_are, length-append so.content now.pending)

-- what is read of data that is joined
abbrev pub ReadsData : {T : Type 0} → (T → Option (List ℕ)) → (T → ℕ) → (T → Option (List ℕ) × ℕ) → T → T → ℕ → ℕ → Held → Held → Type 0
ReadsData left_of faults_of beside_of a b size wanted old now =
    Reads left_of faults_of beside_of a b false (length old.pending < size) (λ m. IsJoining size wanted old (old.pending ++ m) now)

-- all that is pending was joined, and more is wanted
joined_now : {T : Type 0} (left_of : T → Option (List ℕ)) (faults_of : T → ℕ) (beside_of : T → Option (List ℕ) × ℕ) (a b : T) (size wanted n : ℕ) (old now join : Held)
    → n ≤ wanted → n ≤ length now.pending → ReadsData left_of faults_of beside_of a b size wanted old now → join.body ≡ now.body ++ take n now.pending
    → join.pending ≡ drop n now.pending → ReadsData left_of faults_of beside_of a b size (wanted - n) old join
joined_now left_of faults_of beside_of a b size wanted n old now join few there so moved rest =
    reads_as left_of faults_of beside_of a b false (length old.pending < size) (length old.pending < size) (λ m. IsJoining size wanted old (old.pending ++ m) now)
    (λ m. IsJoining size (wanted - n) old (old.pending ++ m) join) so (λ h. h)
    (λ m held. joining_more size wanted n old (old.pending ++ m) now join few there held moved rest)

-- then more is read
pub joining_read : {T : Type 0} (left_of : T → Option (List ℕ)) (faults_of : T → ℕ) (beside_of : T → Option (List ℕ) × ℕ) (a b c : T) (size wanted n : ℕ) (old now join new : Held)
    → n ≤ wanted → n ≤ length now.pending → ReadsData left_of faults_of beside_of a b size wanted old now → join.body ≡ now.body ++ take n now.pending
    → join.pending ≡ drop n now.pending → length join.pending < wanted - n
    → Reads left_of faults_of beside_of b c false (Unit {0}) (λ m. new.pending ≡ join.pending ++ m) → new.body ≡ join.body
    → ReadsData left_of faults_of beside_of a c size (wanted - n) old new
joining_read left_of faults_of beside_of a b c size wanted n old now join new few there so moved rest short more kept =
    reads_on left_of faults_of beside_of a b c false old.pending (length old.pending < size) (Unit {0}) (length old.pending < size)
    (λ bytes. IsJoining size (wanted - n) old bytes join) (λ m. new.pending ≡ join.pending ++ m) (λ bytes. IsJoining size (wanted - n) old bytes new)
    (joined_now left_of faults_of beside_of a b size wanted n old now join few there so moved rest) more (λ h. h)
    (λ held _. joining_short size (wanted - n) old old.pending join held short)
    (λ bytes m held read. joining-append size (wanted - n) old bytes m join new held read kept)

-- or no more comes
pub joining_stopped : {T : Type 0} (left_of : T → Option (List ℕ)) (faults_of : T → ℕ) (beside_of : T → Option (List ℕ) × ℕ) (a b c : T) (size wanted n : ℕ) (old now join new : Held) (e : ReadError)
    → n ≤ wanted → n ≤ length now.pending → ReadsData left_of faults_of beside_of a b size wanted old now → join.body ≡ now.body ++ take n now.pending
    → join.pending ≡ drop n now.pending → length join.pending < wanted - n
    → Reads left_of faults_of beside_of b c (is_fault e) (Unit {0}) (λ m. new.pending ≡ join.pending ++ m) → new.pending ≡ join.pending → StopsReading e
    → Reads left_of faults_of beside_of a c (is_fault e) (length old.pending < size) (λ m. Tells e (λ o. (o ≡ Part) × (length (old.pending ++ m) < size)))
joining_stopped left_of faults_of beside_of a b c size wanted n old now join new e few there so moved rest short more same stops =
    reads_on left_of faults_of beside_of a b c (is_fault e) old.pending (length old.pending < size) (Unit {0}) (length old.pending < size)
    (λ bytes. IsJoining size (wanted - n) old bytes join) (λ m. new.pending ≡ join.pending ++ m) (λ bytes. Tells e (λ o. (o ≡ Part) × (length bytes < size)))
    (joined_now left_of faults_of beside_of a b size wanted n old now join few there so moved rest) more (λ h. h)
    (λ held _. joining_short size (wanted - n) old old.pending join held short)
    (λ bytes m held read. part_told e (λ o. (o ≡ Part) × (length (bytes ++ m) < size)) stops (
      refl,
      joining_short size (wanted - n) old (bytes ++ m) (record { body = join.body; pending = new.pending })
          (joining-append size (wanted - n) old bytes m join (record { body = join.body; pending = new.pending }) held read refl) (omega (arith, short, ap length same)),
    ))

-- CR LF follows the data, or not
crlf_told : {T : Type 0} (size : ℕ) (bytes content tail : List ℕ) (r : Result T ReadError) (old mid new : Held) → length content ≡ size → bytes ≡ content ++ tail
    → mid.body ≡ old.body ++ content → new.body ≡ mid.body → IsCrlfRead tail r new.pending → IsDataRead size bytes r old new
crlf_told size bytes content tail (Ok done) old mid new long text joined kept read =
    record { content = content; long = long; bytes_are = text ∙ ap (λ (l : List ℕ). content ++ l) read; joined = kept ∙ joined }
crlf_told size bytes content tail (Err e) old mid new long text joined kept read =
    let behind : drop size bytes ≡ tail =
    ap (drop size) text ∙ ap (λ k. drop k (content ++ tail)) (sym long) ∙ drop-append-le (length content) content tail (omega arith)
    ∙ ap (λ (l : List ℕ). l ++ tail) (drop_all (length content) content (omega arith)) in
    let there : size ≤ length bytes = omega (arith, ap length text, length-append content tail, long) in
    told_as e (EndsInCrlf tail) (EndsInData size bytes) (λ o ends. elim ends [
      | inl wrong ↦ inl (wrong.0, (there, subst IsNoCrlf (sym behind) wrong.1))
      | inr part ↦ inr (part.0, inr (there, subst IsPartOfCrlf (sym behind) part.1))
    ]) read

pub data_read : {T : Type 0} (size : ℕ) (bytes n : List ℕ) (r : Result T ReadError) (old mid new : Held) → HasContent size bytes old mid
    → new.body ≡ mid.body → IsCrlfRead (mid.pending ++ n) r new.pending → IsDataRead size (bytes ++ n) r old new
data_read size bytes n r old mid new has kept read =
    crlf_told size (bytes ++ n) has.content (mid.pending ++ n) r old mid new has.long
    (ap (λ (l : List ℕ). l ++ n) has.bytes_are ∙ append_assoc has.content mid.pending n) has.joined kept read

-- the data is there, but not all of CR LF
pub data_part : (size : ℕ) (bytes : List ℕ) (old mid : Held) → HasContent size bytes old mid → IsPartOfCrlf mid.pending → HasPartOfData size bytes
data_part size bytes old mid has part =
    let behind : drop size bytes ≡ mid.pending =
    ap (drop size) has.bytes_are ∙ ap (λ k. drop k (has.content ++ mid.pending)) (sym has.long) ∙ drop-append-le (length has.content) has.content mid.pending (omega arith)
    ∙ ap (λ (l : List ℕ). l ++ mid.pending) (drop_all (length has.content) has.content (omega arith)) in
    inr (omega (arith, ap length has.bytes_are, length-append has.content mid.pending, has.long), subst IsPartOfCrlf (sym behind) part)

-- ---- chunks

all-snoc : {X : Type 0} (P : X → Type 0) (xs : List X) (x : X) → AllByRecursion P xs → P x → AllByRecursion P (xs ++ x ∷ [])
all-snoc P [] x all last = (last, tt)
all-snoc P (y ∷ ys) x all last = (all.0, all-snoc P ys x all.1 last)

-- more bytes follow the rest
pub chunks-append : (limit : ℕ) (bytes more : List ℕ) (chunks : List Chunk) (rest : List ℕ) → HasChunks limit bytes chunks rest
    → HasChunks limit (bytes ++ more) chunks (rest ++ more)
chunks-append limit bytes more chunks rest has = record {
  each = has.each;
  bytes_are = ap (λ (l : List ℕ). l ++ more) has.bytes_are ∙ append_assoc (print_chunks chunks) rest more;
  within = has.within;
}

pub size-append : (bytes more : List ℕ) (size : ℕ) (rest : List ℕ) → HasSize bytes size rest → HasSize (bytes ++ more) size (rest ++ more)
size-append bytes more size rest has =
    (has.0, ((has.1.0.0, ap (λ (l : List ℕ). l ++ more) has.1.0.1 ∙ append_assoc (print_chunk_line has.0) rest more), has.1.1), has.2)

-- one more chunk
chunks-more : (limit : ℕ) (bytes : List ℕ) (chunks : List Chunk) (at tail content rest : List ℕ) (size : ℕ) (has : HasChunks limit bytes chunks at)
    (line : HasSize at size tail) → 0 < size → length (content_of chunks) + size ≤ limit → tail ≡ content ++ (crlf ++ rest) → length content ≡ size
    → HasChunks limit bytes (chunks ++ record { line = line.0; content = content } ∷ []) rest
chunks-more limit bytes chunks at tail content rest size has line some fits follows long =
    let c : Chunk = record { line = line.0; content = content } in
    let front = print_chunk_line line.0 in
    let text : at ≡ print_chunk c ++ rest =
    line.1.0.1
    ∙ ap (λ (l : List ℕ). front ++ l) (follows ∙ sym (append_assoc content crlf rest))
    ∙ sym (append_assoc front (content ++ crlf) rest) in
    let contents : length (content_of (chunks ++ c ∷ [])) ≡ length (content_of chunks) + length content =
    ap length (sym (flat_map_more (λ (d : Chunk). d.content) [] chunks c)) ∙ length-append (content_of chunks) content in
    record {
      each = all-snoc IsChunk chunks c has.each (record { line = line.1.0.0; short = line.1.1; size = long ∙ line.2; some = omega (arith, long, some) });
      bytes_are =
          has.bytes_are
          ∙ ap (λ (l : List ℕ). print_chunks chunks ++ l) text
          ∙ sym (append_assoc (print_chunks chunks) (print_chunk c) rest)
          ∙ ap (λ (l : List ℕ). l ++ rest) (flat_map_more print_chunk [] chunks c);
      within = omega (arith, contents, long, fits);
    }

-- ---- the chunks so far

-- the bytes are chunks, whose data is the body, followed by what is pending
pub record IsJoined (limit : ℕ) (bytes : List ℕ) (now : Held) : Type 0 where
  pub chunks : List Chunk
  pub has : HasChunks limit bytes chunks now.pending
  pub joined : now.body ≡ content_of chunks

-- a size line follows these chunks
pub record IsSized (limit : ℕ) (bytes : List ℕ) (size : ℕ) (now : Held) : Type 0 where
  pub chunks : List Chunk
  pub at : List ℕ
  pub has : HasChunks limit bytes chunks at
  pub line : HasSize at size now.pending
  pub joined : now.body ≡ content_of chunks

joined_start : (limit : ℕ) (now : Held) → now.body ≡ [] → IsJoined limit now.pending now
joined_start limit now empty = record {
  chunks = [];
  has = record { each = tt; bytes_are = refl; within = omega arith };
  joined = empty;
}

-- a line was read after the chunks
pub sized : (limit : ℕ) (bytes n : List ℕ) (size : ℕ) (now mid : Held) → IsJoined limit bytes now → HasSize (now.pending ++ n) size mid.pending → mid.body ≡ now.body
    → IsSized limit (bytes ++ n) size mid
sized limit bytes n size now mid so line kept = record {
  chunks = so.chunks;
  at = now.pending ++ n;
  has = chunks-append limit bytes n so.chunks now.pending so.has;
  line = line;
  joined = kept ∙ so.joined;
}

-- one more chunk was read
joined_more : (limit : ℕ) (bytes n : List ℕ) (size : ℕ) (now new : Held) → IsSized limit bytes size now → 0 < size → length now.body + size ≤ limit
    → HasData size (now.pending ++ n) now new → IsJoined limit (bytes ++ n) new
joined_more limit bytes n size now new so some fits got =
    let line = size-append so.at n size now.pending so.line in
    record {
      chunks = so.chunks ++ record { line = line.0; content = got.content } ∷ [];
      has = chunks-more limit (bytes ++ n) so.chunks (so.at ++ n) (now.pending ++ n) got.content new.pending size
          (chunks-append limit bytes n so.chunks so.at so.has) line some (omega (arith, fits, ap length so.joined)) got.bytes_are got.long;
      joined = got.joined ∙ ap (λ (l : List ℕ). l ++ got.content) so.joined ∙ flat_map_more (λ (k : Chunk). k.content) [] so.chunks (record { line = line.0; content = got.content });
    }

-- the body ends at a line
joined_ends : (limit : ℕ) (bytes n : List ℕ) (now new : Held) (o : Ending) → IsJoined limit bytes now → EndsInLine (now.pending ++ n) o → new.body ≡ now.body
    → HasChunkedBody limit (bytes ++ n) o new.body new.pending
joined_ends limit bytes n now new o so ends kept = record {
  chunks = so.chunks;
  at = now.pending ++ n;
  has = chunks-append limit bytes n so.chunks now.pending so.has;
  ends = inl ends;
  joined = λ whole. kept ∙ so.joined;
}

-- it ends after a line
sized_ends : (limit : ℕ) (bytes n : List ℕ) (size : ℕ) (now : Held) (body rest : List ℕ) (o : Ending) → IsSized limit bytes size now
    → EndsBehindSize (limit - length now.body) size (now.pending ++ n) o rest → (o ≡ Whole → body ≡ now.body) → HasChunkedBody limit (bytes ++ n) o body rest
sized_ends limit bytes n size now body rest o so ends kept = record {
  chunks = so.chunks;
  at = so.at ++ n;
  has = chunks-append limit bytes n so.chunks so.at so.has;
  ends = inr (
    size,
    now.pending ++ n,
    size-append so.at n size now.pending so.line,
    subst (λ (l : List ℕ). EndsBehindSize (limit - length l) size (now.pending ++ n) o rest) so.joined ends,
  );
  joined = λ whole. kept whole ∙ so.joined;
}

-- the same if nothing follows
here : (limit : ℕ) (bytes body rest : List ℕ) (o : Ending) → HasChunkedBody limit (bytes ++ []) o body rest → HasChunkedBody limit bytes o body rest
here limit bytes body rest o has = subst (λ (l : List ℕ). HasChunkedBody limit l o body rest) (append-nil bytes) has

part_not_whole : {X : Type 0} → Part ≡ Whole → X
part_not_whole same = absurd cc

wrong_not_whole : Wrong ≡ Whole → ⊥
wrong_not_whole same = cc

-- ---- a part of a body

line_part : (limit : ℕ) (bytes : List ℕ) (now : Held) → IsJoined limit bytes now → HasPartOfLine now.pending → HasPartOfBody limit Chunked bytes
line_part limit bytes now so part =
    (now.body, now.pending, here limit bytes now.body now.pending Part (joined_ends limit bytes [] now now Part so (inr (refl, subst HasPartOfLine (sym (append-nil now.pending)) part)) refl))

trailer_part : (limit : ℕ) (bytes : List ℕ) (size : ℕ) (now : Held) → IsSized limit bytes size now → size ≡ 0 → HasPartOfTrailer now.pending → HasPartOfBody limit Chunked bytes
trailer_part limit bytes size now so none part = (
  now.body,
  now.pending,
  here limit bytes now.body now.pending Part
      (sized_ends limit bytes [] size now now.body now.pending Part so (inr (inl (none, inr (inr (refl, subst HasPartOfTrailer (sym (append-nil now.pending)) part))))) (λ whole. refl)),
)

chunk_part : (limit : ℕ) (bytes : List ℕ) (size : ℕ) (now : Held) → IsSized limit bytes size now → 0 < size → size ≤ limit - length now.body → HasPartOfData size now.pending
    → HasPartOfBody limit Chunked bytes
chunk_part limit bytes size now so some fits part = (
  now.body,
  now.pending,
  here limit bytes now.body now.pending Part
      (sized_ends limit bytes [] size now now.body now.pending Part so
      (inr (inr (some, fits, inr (refl, subst (HasPartOfData size) (sym (append-nil now.pending)) part)))) (λ whole. refl)),
)

-- ---- the loop

-- what is read of the chunks so far, and of a body
abbrev pub Joins : {T : Type 0} → (T → Option (List ℕ)) → (T → ℕ) → (T → Option (List ℕ) × ℕ) → ℕ → List ℕ → T → T → Held → Type 0
Joins left_of faults_of beside_of limit entry a b now =
    Reads left_of faults_of beside_of a b false (HasPartOfBody limit Chunked entry) (λ m. IsJoined limit (entry ++ m) now)

abbrev pub Sizes : {T : Type 0} → (T → Option (List ℕ)) → (T → ℕ) → (T → Option (List ℕ) × ℕ) → ℕ → List ℕ → T → T → ℕ → Held → Type 0
Sizes left_of faults_of beside_of limit entry a b size now =
    Reads left_of faults_of beside_of a b false (HasPartOfBody limit Chunked entry) (λ m. IsSized limit (entry ++ m) size now)

abbrev pub ReadsChunks : {T U : Type 0} → (T → Option (List ℕ)) → (T → ℕ) → (T → Option (List ℕ) × ℕ) → ℕ → List ℕ → T → T → Bool → Result U ReadError → Held → Type 0
ReadsChunks left_of faults_of beside_of limit entry a b failed r new =
    Reads left_of faults_of beside_of a b failed (HasPartOfBody limit Chunked entry)
    (λ m. TellsEnding r (λ o. HasBody limit Chunked (entry ++ m) o new.body new.pending))

pub size_read : {T : Type 0} (left_of : T → Option (List ℕ)) (faults_of : T → ℕ) (beside_of : T → Option (List ℕ) × ℕ) (limit : ℕ) (entry : List ℕ) (a b c : T) (size : ℕ) (now mid : Held)
    → Joins left_of faults_of beside_of limit entry a b now
    → Reads left_of faults_of beside_of b c false (HasPartOfLine now.pending) (λ n. HasSize (now.pending ++ n) size mid.pending) → mid.body ≡ now.body
    → Sizes left_of faults_of beside_of limit entry a c size mid
size_read left_of faults_of beside_of limit entry a b c size now mid so line kept =
    reads_on left_of faults_of beside_of a b c false entry (HasPartOfBody limit Chunked entry) (HasPartOfLine now.pending) (HasPartOfBody limit Chunked entry)
    (λ bytes. IsJoined limit bytes now) (λ n. HasSize (now.pending ++ n) size mid.pending) (λ bytes. IsSized limit bytes size mid) so line (λ h. h)
    (λ held part. line_part limit entry now held part)
    (λ bytes n held read. sized limit bytes n size now mid held read kept)

-- reading ends at a line
pub line_ends : {T : Type 0} (left_of : T → Option (List ℕ)) (faults_of : T → ℕ) (beside_of : T → Option (List ℕ) × ℕ) (limit : ℕ) (entry : List ℕ) (a b c : T) (failed : Bool) (e : ReadError) (now new : Held)
    → Joins left_of faults_of beside_of limit entry a b now
    → Reads left_of faults_of beside_of b c failed (HasPartOfLine now.pending) (λ n. Tells e (EndsInLine (now.pending ++ n))) → new.body ≡ now.body
    → Reads left_of faults_of beside_of a c failed (HasPartOfBody limit Chunked entry) (λ m. Tells e (λ o. HasBody limit Chunked (entry ++ m) o new.body new.pending))
line_ends left_of faults_of beside_of limit entry a b c failed e now new so line kept =
    reads_on left_of faults_of beside_of a b c failed entry (HasPartOfBody limit Chunked entry) (HasPartOfLine now.pending) (HasPartOfBody limit Chunked entry)
    (λ bytes. IsJoined limit bytes now) (λ n. Tells e (EndsInLine (now.pending ++ n))) (λ bytes. Tells e (λ o. HasBody limit Chunked bytes o new.body new.pending)) so line (λ h. h)
    (λ held part. line_part limit entry now held part)
    (λ bytes n held told. told_as e (EndsInLine (now.pending ++ n)) (λ o. HasBody limit Chunked (bytes ++ n) o new.body new.pending)
    (λ o ends. joined_ends limit bytes n now new o held ends kept) told)

trailer_told : {U : Type 0} (limit : ℕ) (bytes n : List ℕ) (size : ℕ) (now new : Held) (r : Result U ReadError) → IsSized limit bytes size now → size ≡ 0 → new.body ≡ now.body
    → TellsEnding r (λ o. EndsInTrailer (now.pending ++ n) o new.pending) → TellsEnding r (λ o. HasBody limit Chunked (bytes ++ n) o new.body new.pending)
trailer_told limit bytes n size now new (Ok done) so none kept told = sized_ends limit bytes n size now new.body new.pending Whole so (inr (inl (none, told))) (λ whole. kept)
trailer_told limit bytes n size now new (Err e) so none kept told =
    told_as e (λ o. EndsInTrailer (now.pending ++ n) o new.pending) (λ o. HasBody limit Chunked (bytes ++ n) o new.body new.pending)
    (λ o ends. sized_ends limit bytes n size now new.body new.pending o so (inr (inl (none, ends))) (λ whole. kept)) told

-- it ends with the trailer
pub trailer_ends : {T U : Type 0} (left_of : T → Option (List ℕ)) (faults_of : T → ℕ) (beside_of : T → Option (List ℕ) × ℕ) (limit : ℕ) (entry : List ℕ) (a b c : T) (failed : Bool) (r : Result U ReadError) (size : ℕ) (now new : Held)
    → Sizes left_of faults_of beside_of limit entry a b size now → size ≡ 0
    → Reads left_of faults_of beside_of b c failed (HasPartOfTrailer now.pending) (λ n. TellsEnding r (λ o. EndsInTrailer (now.pending ++ n) o new.pending)) → new.body ≡ now.body
    → ReadsChunks left_of faults_of beside_of limit entry a c failed r new
trailer_ends left_of faults_of beside_of limit entry a b c failed r size now new so none trailer kept =
    reads_on left_of faults_of beside_of a b c failed entry (HasPartOfBody limit Chunked entry) (HasPartOfTrailer now.pending) (HasPartOfBody limit Chunked entry)
    (λ bytes. IsSized limit bytes size now) (λ n. TellsEnding r (λ o. EndsInTrailer (now.pending ++ n) o new.pending))
    (λ bytes. TellsEnding r (λ o. HasBody limit Chunked bytes o new.body new.pending)) so trailer (λ h. h)
    (λ held part. trailer_part limit entry size now held none part)
    (λ bytes n held told. trailer_told limit bytes n size now new r held none kept told)

-- it ends in the data of a chunk
pub data_ends : {T : Type 0} (left_of : T → Option (List ℕ)) (faults_of : T → ℕ) (beside_of : T → Option (List ℕ) × ℕ) (limit : ℕ) (entry : List ℕ) (a b c : T) (failed : Bool) (e : ReadError) (size : ℕ) (now new : Held)
    → Sizes left_of faults_of beside_of limit entry a b size now → 0 < size → size ≤ limit - length now.body
    → Reads left_of faults_of beside_of b c failed (HasPartOfData size now.pending) (λ n. Tells e (EndsInData size (now.pending ++ n)))
    → Reads left_of faults_of beside_of a c failed (HasPartOfBody limit Chunked entry) (λ m. Tells e (λ o. HasBody limit Chunked (entry ++ m) o new.body new.pending))
data_ends left_of faults_of beside_of limit entry a b c failed e size now new so some fits data_part =
    reads_on left_of faults_of beside_of a b c failed entry (HasPartOfBody limit Chunked entry) (HasPartOfData size now.pending) (HasPartOfBody limit Chunked entry)
    (λ bytes. IsSized limit bytes size now) (λ n. Tells e (EndsInData size (now.pending ++ n))) (λ bytes. Tells e (λ o. HasBody limit Chunked bytes o new.body new.pending)) so data_part (λ h. h)
    (λ held part. chunk_part limit entry size now held some fits part)
    (λ bytes n held told. told_as e (EndsInData size (now.pending ++ n)) (λ o. HasBody limit Chunked (bytes ++ n) o new.body new.pending)
    (λ o ends. sized_ends limit bytes n size now new.body new.pending o held (inr (inr (some, fits, ends)))
    (λ whole. elim ends [ inl wrong ↦ absurd (wrong_not_whole (sym wrong.0 ∙ whole)) | inr part ↦ part_not_whole (sym part.0 ∙ whole) ])) told)

-- it continues after a chunk
pub chunk_read : {T : Type 0} (left_of : T → Option (List ℕ)) (faults_of : T → ℕ) (beside_of : T → Option (List ℕ) × ℕ) (limit : ℕ) (entry : List ℕ) (a b c : T) (size : ℕ) (now new : Held)
    → Sizes left_of faults_of beside_of limit entry a b size now → 0 < size → length now.body + size ≤ limit
    → Reads left_of faults_of beside_of b c false (HasPartOfData size now.pending) (λ n. HasData size (now.pending ++ n) now new)
    → Joins left_of faults_of beside_of limit entry a c new
chunk_read left_of faults_of beside_of limit entry a b c size now new so some fits chunk =
    reads_on left_of faults_of beside_of a b c false entry (HasPartOfBody limit Chunked entry) (HasPartOfData size now.pending) (HasPartOfBody limit Chunked entry)
    (λ bytes. IsSized limit bytes size now) (λ n. HasData size (now.pending ++ n) now new) (λ bytes. IsJoined limit bytes new) so chunk (λ h. h)
    (λ held part. chunk_part limit entry size now held some (omega (arith, fits)) part)
    (λ bytes n held read. joined_more limit bytes n size now new held some fits read)

-- the size is larger than the room left
size_over : (limit : ℕ) (bytes : List ℕ) (size : ℕ) (now : Held) → IsSized limit bytes size now → limit - length now.body < size
    → HasChunkedBody limit bytes Long now.body now.pending
size_over limit bytes size now so over =
    here limit bytes now.body now.pending Long (sized_ends limit bytes [] size now now.body now.pending Long so (inl (refl, over)) (λ whole. refl))

-- an empty text is not a trailer
pub lacks_nothing : (bytes : List ℕ) → LacksTrailer 0 bytes
unfolding is_trailer
lacks_nothing bytes zero low = refl
lacks_nothing bytes (suc m) low = absurd (omega (arith, low))

-- all pending bytes were searched
pub trailer_lacks : (pending seen also : List ℕ) → seen ≡ pending → also ≡ pending → length also < TRAILER_LIMIT → LacksTrailer (min (length seen) TRAILER_LIMIT) seen
    → HasPartOfTrailer pending
trailer_lacks pending seen also same too short none =
    let few : length pending < TRAILER_LIMIT = omega (arith, short, ap length too) in
    let all : min (length seen) TRAILER_LIMIT ≡ length pending = omega (arith, few, ap length same) in
    (few, λ m low. ap (λ (l : List ℕ). is_trailer (take m l)) (sym same) ∙ none m (omega (arith, low, all)))

-- no chunk has been read yet
pub joined_from : {T : Type 0} (left_of : T → Option (List ℕ)) (faults_of : T → ℕ) (beside_of : T → Option (List ℕ) × ℕ) (limit : ℕ) (a : T) (now : Held) → now.body ≡ []
    → Joins left_of faults_of beside_of limit now.pending a a now
joined_from left_of faults_of beside_of limit a now empty =
    reads_none left_of faults_of beside_of a (HasPartOfBody limit Chunked now.pending) (λ m. IsJoined limit (now.pending ++ m) now)
    (subst (λ (bytes : List ℕ). IsJoined limit bytes now) (sym (append-nil now.pending)) (joined_start limit now empty))

-- the size is larger than the room left
pub sizes_over : {T : Type 0} (left_of : T → Option (List ℕ)) (faults_of : T → ℕ) (beside_of : T → Option (List ℕ) × ℕ) (limit : ℕ) (entry : List ℕ) (a b : T) (size : ℕ) (now : Held)
    → Sizes left_of faults_of beside_of limit entry a b size now → limit - length now.body < size
    → Reads left_of faults_of beside_of a b false (HasPartOfBody limit Chunked entry) (λ m. Tells (Refused TooLong) (λ o. HasBody limit Chunked (entry ++ m) o now.body now.pending))
sizes_over left_of faults_of beside_of limit entry a b size now so over =
    reads_as left_of faults_of beside_of a b false (HasPartOfBody limit Chunked entry) (HasPartOfBody limit Chunked entry) (λ m. IsSized limit (entry ++ m) size now)
    (λ m. Tells (Refused TooLong) (λ o. HasBody limit Chunked (entry ++ m) o now.body now.pending)) so (λ h. h)
    (λ m held. inr (refl, size_over limit (entry ++ m) size now held over))

pub joins_bound : {T : Type 0} (left_of : T → Option (List ℕ)) (faults_of : T → ℕ) (beside_of : T → Option (List ℕ) × ℕ) (limit : ℕ) (entry : List ℕ) (a b : T) (now : Held)
    → Joins left_of faults_of beside_of limit entry a b now → length now.body ≤ limit
joins_bound left_of faults_of beside_of limit entry a b now so = omega (arith, so.holds.has.within, ap length so.holds.joined)
