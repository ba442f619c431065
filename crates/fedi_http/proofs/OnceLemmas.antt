-- Bytes begin with one body only, or there is one reason why they begin with no body.
use Rattle.std.proofs.Common.{◌≡◌, ◌≢◌, ℕ, ◌+◌, ◌-◌, ◌≤◌, List, [], ◌∷◌, ◌++◌, length, take, drop, inl, inr, refl, sym, ap, subst, ◌∙◌, arith, append_assoc, append-nil, length-append}
use Rattle.std.proofs.Math.Seq.{take-append-add}
use Rattle.std.proofs.lemmas.List.{take-append-drop, take_all, take-append-le, drop-append-le, drop_all, take-take}
use Rattle.std.proofs.lemmas.Bool.{cases_order, cases_lt}
use Rattle.std.specs.List.{AllByRecursion}
use Rattle.httparse.specs.Grammar.{ChunkLine, print_chunk_line, chunk_size, ReadsChunkLine, NeverHasChunkLine, HasNoChunkLine}
use Rattle.httparse.proofs.ChunkLemmas.{chunk_line_unique}
use Rattle.fedi_model.specs.declared.request.Coding.{Coding}
use Rattle.fedi_model.specs.declared.request.Coding.TheVariants as codings
use Rattle.fedi_http.specs.declared.chunks.TheConstants.{LINE_LIMIT}
use Rattle.fedi_http.specs.Chunks.{Chunk, EndsBehindSize, EndsInData, EndsInLine, EndsInTrailer, Ending, HasBody, HasChunkedBody, HasMeasuredBody, HasLine, HasPartOfData, HasPartOfLine, HasPartOfTrailer, HasSize, HasTrailer, HasWrongData, HasWrongLine, HasWrongTrailer, IsChunk, IsEndAt, IsNoCrlf, IsPartOfCrlf, Long, Part, Whole, Wrong, content_of, crlf, is_trailer, print_chunk, print_chunks}
use Rattle.fedi_http.proofs.ChunkLemmas.{chunks-append, size-append}
use Rattle.fedi_town.proofs.Texts.{not_both}
use Rattle.fedi_outside.proofs.ImageLemmas.{same_length}

-- ---- one line

size_once : (bytes : List ℕ) (m n : ℕ) (s t : List ℕ) → HasSize bytes m s → HasSize bytes n t → (m ≡ n) × (s ≡ t)
size_once bytes m n s t x y =
    let same = chunk_line_unique bytes x.0 y.0 s t x.1.0 y.1.0 in
    (x.2 ∙ ap chunk_size same.0 ∙ sym y.2, same.1)

-- a line of at most `LINE_LIMIT` bytes is within the first `LINE_LIMIT` bytes
line-in-front : (bytes : List ℕ) (l : ChunkLine) (rest : List ℕ) → HasLine bytes l rest → (x : List ℕ) × ReadsChunkLine (take LINE_LIMIT bytes) l x
line-in-front bytes l rest has =
    let line = print_chunk_line l in
    let front : take (length line) (take LINE_LIMIT bytes) ≡ line =
    take-take (length line) LINE_LIMIT bytes has.1
    ∙ ap (take (length line)) has.0.1
    ∙ take-append-le (length line) line rest (omega arith)
    ∙ take_all (length line) line (omega arith) in (
      drop (length line) (take LINE_LIMIT bytes),
      (has.0.0, sym (take-append-drop (length line) (take LINE_LIMIT bytes)) ∙ ap (λ (z : List ℕ). z ++ drop (length line) (take LINE_LIMIT bytes)) front),
    )

wrong_not_size : (bytes : List ℕ) (n : ℕ) (t : List ℕ) → HasWrongLine bytes → HasSize bytes n t → ⊥
wrong_not_size bytes n t (inl never) has =
    let found = line-in-front bytes has.0 t has.1 in
    never [] has.0 found.0 (found.1.0, append-nil (take LINE_LIMIT bytes) ∙ found.1.1)
wrong_not_size bytes n t (inr none) has =
    let found = line-in-front bytes has.0 t has.1 in none.1 has.0 found.0 found.1

part_not_size : (bytes : List ℕ) (n : ℕ) (t : List ℕ) → HasPartOfLine bytes → HasSize bytes n t → ⊥
part_not_size bytes n t part has = part.1 has.0 t has.1.0

wrong_not_part : (bytes : List ℕ) → HasWrongLine bytes → HasPartOfLine bytes → ⊥
wrong_not_part bytes (inl never) part =
    let all : take LINE_LIMIT bytes ≡ bytes = take_all LINE_LIMIT bytes (omega (arith, part.0)) in
    subst NeverHasChunkLine all never part.2.0 part.2.1 [] part.2.2
wrong_not_part bytes (inr none) part = absurd (omega (arith, none.0, part.0))

-- ---- data

no_crlf_part : (bytes : List ℕ) → IsNoCrlf bytes → IsPartOfCrlf bytes → ⊥
no_crlf_part [] broken part = broken
no_crlf_part (a ∷ []) broken part = broken part
no_crlf_part (a ∷ b ∷ bytes) broken part = part

data_once : (size : ℕ) (bytes : List ℕ) → HasWrongData size bytes → HasPartOfData size bytes → ⊥
data_once size bytes wrong (inl short) = absurd (omega (arith, wrong.0, short))
data_once size bytes wrong (inr part) = no_crlf_part (drop size bytes) wrong.1 part.1

is_crlf : (rest : List ℕ) → IsNoCrlf (crlf ++ rest) → ⊥
is_crlf rest (inl broken) = broken refl
is_crlf rest (inr broken) = broken refl

behind : (content rest : List ℕ) (size : ℕ) (tail : List ℕ) → length content ≡ size → tail ≡ content ++ rest → drop size tail ≡ rest
behind content rest size tail long is =
    ap (drop size) is ∙ ap (λ n. drop n (content ++ rest)) (sym long) ∙ drop-append-le (length content) content rest (omega arith)
    ∙ ap (λ (l : List ℕ). l ++ rest) (drop_all (length content) content (omega arith))

whole_not_wrong : (content rest : List ℕ) (size : ℕ) (tail : List ℕ) → length content ≡ size → tail ≡ content ++ (crlf ++ rest) → HasWrongData size tail → ⊥
whole_not_wrong content rest size tail long is wrong = is_crlf rest (subst IsNoCrlf (behind content (crlf ++ rest) size tail long is) wrong.1)

whole_not_part : (content rest : List ℕ) (size : ℕ) (tail : List ℕ) → length content ≡ size → tail ≡ content ++ (crlf ++ rest) → HasPartOfData size tail → ⊥
whole_not_part content rest size tail long is (inl short) = absurd (omega (arith, short, ap length is, long, length-append content (crlf ++ rest)))
whole_not_part content rest size tail long is (inr part) = subst IsPartOfCrlf (behind content (crlf ++ rest) size tail long is) part.1

-- ---- the trailer

trailer_once : (bytes r q : List ℕ) → HasTrailer bytes r → HasTrailer bytes q → r ≡ q
trailer_once bytes r q x y =
    elim (cases_order x.count y.count) [
      | inl same ↦ x.rest_is ∙ ap (λ n. drop n bytes) same ∙ sym y.rest_is
      | inr (inl low) ↦ absurd (not_both _ x.ends (y.first x.count low))
      | inr (inr high) ↦ absurd (not_both _ y.ends (x.first y.count high))
    ]

trailer_not_wrong : (bytes r : List ℕ) → HasTrailer bytes r → HasWrongTrailer bytes → ⊥
trailer_not_wrong bytes r x wrong = not_both _ x.ends (wrong.1 x.count x.short)

trailer_not_part : (bytes r : List ℕ) → HasTrailer bytes r → HasPartOfTrailer bytes → ⊥
trailer_not_part bytes r x part = not_both _ x.ends (part.1 x.count x.within)

-- ---- where another chunk may begin

part_not_whole : Part ≡ Whole → ⊥
part_not_whole same = cc

abbrev Same : Ending → Ending → List ℕ → List ℕ → Type 0
Same o p r q = (o ≡ p) × (o ≡ Whole → r ≡ q)

both : (o p e : Ending) (r q : List ℕ) → o ≡ e → p ≡ e → e ≢ Whole → Same o p r q
both o p e r q x y other = (x ∙ sym y, λ whole. absurd (other (sym x ∙ whole)))

trailer_same : (tail : List ℕ) (o p : Ending) (r q : List ℕ) → EndsInTrailer tail o r → EndsInTrailer tail p q → Same o p r q
trailer_same tail o p r q (inl x) (inl y) = (x.0 ∙ sym y.0, λ _. trailer_once tail r q x.1 y.1)
trailer_same tail o p r q (inl x) (inr (inl y)) = absurd (trailer_not_wrong tail r x.1 y.1)
trailer_same tail o p r q (inl x) (inr (inr y)) = absurd (trailer_not_part tail r x.1 y.1)
trailer_same tail o p r q (inr (inl x)) (inl y) = absurd (trailer_not_wrong tail q y.1 x.1)
trailer_same tail o p r q (inr (inl x)) (inr (inl y)) = both o p Wrong r q x.0 y.0 (λ e. cc)
trailer_same tail o p r q (inr (inl x)) (inr (inr y)) = absurd (omega (arith, x.1.0, y.1.0))
trailer_same tail o p r q (inr (inr x)) (inl y) = absurd (trailer_not_part tail q y.1 x.1)
trailer_same tail o p r q (inr (inr x)) (inr (inl y)) = absurd (omega (arith, x.1.0, y.1.0))
trailer_same tail o p r q (inr (inr x)) (inr (inr y)) = both o p Part r q x.0 y.0 (λ e. cc)

data_same : (size : ℕ) (tail : List ℕ) (o p : Ending) (r q : List ℕ) → EndsInData size tail o → EndsInData size tail p → Same o p r q
data_same size tail o p r q (inl x) (inl y) = both o p Wrong r q x.0 y.0 (λ e. cc)
data_same size tail o p r q (inl x) (inr y) = absurd (data_once size tail x.1 y.1)
data_same size tail o p r q (inr x) (inl y) = absurd (data_once size tail y.1 x.1)
data_same size tail o p r q (inr x) (inr y) = both o p Part r q x.0 y.0 (λ e. cc)

line_same : (bytes : List ℕ) (o p : Ending) (r q : List ℕ) → EndsInLine bytes o → EndsInLine bytes p → Same o p r q
line_same bytes o p r q (inl x) (inl y) = both o p Wrong r q x.0 y.0 (λ e. cc)
line_same bytes o p r q (inl x) (inr y) = absurd (wrong_not_part bytes x.1 y.1)
line_same bytes o p r q (inr x) (inl y) = absurd (wrong_not_part bytes y.1 x.1)
line_same bytes o p r q (inr x) (inr y) = both o p Part r q x.0 y.0 (λ e. cc)

size_same : (room size : ℕ) (tail : List ℕ) (o p : Ending) (r q : List ℕ) → EndsBehindSize room size tail o r → EndsBehindSize room size tail p q → Same o p r q
size_same room size tail o p r q (inl x) (inl y) = both o p Long r q x.0 y.0 (λ e. cc)
size_same room size tail o p r q (inl x) (inr (inl y)) = absurd (omega (arith, x.1, y.0))
size_same room size tail o p r q (inl x) (inr (inr y)) = absurd (omega (arith, x.1, y.1))
size_same room size tail o p r q (inr (inl x)) (inl y) = absurd (omega (arith, x.0, y.1))
size_same room size tail o p r q (inr (inl x)) (inr (inl y)) = trailer_same tail o p r q x.1 y.1
size_same room size tail o p r q (inr (inl x)) (inr (inr y)) = absurd (omega (arith, x.0, y.0))
size_same room size tail o p r q (inr (inr x)) (inl y) = absurd (omega (arith, x.1, y.1))
size_same room size tail o p r q (inr (inr x)) (inr (inl y)) = absurd (omega (arith, x.0, y.0))
size_same room size tail o p r q (inr (inr x)) (inr (inr y)) = data_same size tail o p r q x.2 y.2

-- what is not a line is not a size
line_not_size : (bytes : List ℕ) (o : Ending) (n : ℕ) (t : List ℕ) → EndsInLine bytes o → HasSize bytes n t → ⊥
line_not_size bytes o n t (inl x) line = wrong_not_size bytes n t x.1 line
line_not_size bytes o n t (inr x) line = part_not_size bytes n t x.1 line

end_same : (room : ℕ) (bytes : List ℕ) (o p : Ending) (r q : List ℕ) → IsEndAt room bytes o r → IsEndAt room bytes p q → Same o p r q
end_same room bytes o p r q (inl x) (inl y) = line_same bytes o p r q x y
end_same room bytes o p r q (inl x) (inr (n, t, line, after)) = absurd (line_not_size bytes o n t x line)
end_same room bytes o p r q (inr (n, t, line, after)) (inl y) = absurd (line_not_size bytes p n t y line)
end_same room bytes o p r q (inr (m, s, line, after)) (inr (n, t, also, then)) =
    let same = size_once bytes m n s t line also in
    size_same room n t o p r q (subst (λ (z : List ℕ). EndsBehindSize room n z o r) same.1 (subst (λ k. EndsBehindSize room k s o r) same.0 after)) then

-- ---- chunks

-- what a chunk at the front says
chunk_size_is : (c : Chunk) (bytes rest : List ℕ) → IsChunk c → bytes ≡ print_chunk c ++ rest → HasSize bytes (length c.content) (c.content ++ (crlf ++ rest))
chunk_size_is c bytes rest is text = (
  c.line,
  ((is.line, text ∙ append_assoc (print_chunk_line c.line) (c.content ++ crlf) rest ∙ ap (λ (l : List ℕ). print_chunk_line c.line ++ l) (append_assoc c.content crlf rest)), is.short),
  is.size,
)

not_after : (room size : ℕ) (tail : List ℕ) (o : Ending) (r : List ℕ) (c : Chunk) (rest : List ℕ) → IsChunk c → length c.content ≤ room → length c.content ≡ size
    → tail ≡ c.content ++ (crlf ++ rest) → EndsBehindSize room size tail o r → ⊥
not_after room size tail o r c rest is fits long text (inl x) = absurd (omega (arith, x.1, fits, long))
not_after room size tail o r c rest is fits long text (inr (inl x)) = absurd (omega (arith, x.0, is.some, long))
not_after room size tail o r c rest is fits long text (inr (inr (some, low, inl x))) = whole_not_wrong c.content rest size tail long text x.1
not_after room size tail o r c rest is fits long text (inr (inr (some, low, inr x))) = whole_not_part c.content rest size tail long text x.1

no_end : (room : ℕ) (bytes : List ℕ) (o : Ending) (r : List ℕ) (c : Chunk) (rest : List ℕ) → IsChunk c → bytes ≡ print_chunk c ++ rest → length c.content ≤ room
    → IsEndAt room bytes o r → ⊥
no_end room bytes o r c rest is text fits (inl x) = line_not_size bytes o _ _ x (chunk_size_is c bytes rest is text)
no_end room bytes o r c rest is text fits (inr (n, t, line, after)) =
    let same = size_once bytes n (length c.content) t (c.content ++ (crlf ++ rest)) line (chunk_size_is c bytes rest is text) in
    not_after room n t o r c rest is fits (sym same.0) same.1 after

front : (xs ys : List ℕ) → take (length xs) (xs ++ ys) ≡ xs
front xs ys = take-append-le (length xs) xs ys (omega arith) ∙ take_all (length xs) xs (omega arith)

chunk_once : (c d : Chunk) (bytes r q : List ℕ) → IsChunk c → IsChunk d → bytes ≡ print_chunk c ++ r → bytes ≡ print_chunk d ++ q → (c.content ≡ d.content) × (r ≡ q)
chunk_once c d bytes r q x y left right =
    let same = size_once bytes (length c.content) (length d.content) _ _ (chunk_size_is c bytes r x left) (chunk_size_is d bytes q y right) in
    let content : c.content ≡ d.content =
    sym (front c.content (crlf ++ r)) ∙ ap (take (length c.content)) same.1 ∙ ap (λ n. take n (d.content ++ (crlf ++ q))) same.0 ∙ front d.content (crlf ++ q) in
    let rest : crlf ++ r ≡ crlf ++ q =
    sym (behind c.content (crlf ++ r) (length c.content) _ refl refl) ∙ ap (drop (length c.content)) same.1
    ∙ behind d.content (crlf ++ q) (length c.content) _ (sym same.0) refl in
    (content, ap (drop 2) rest)

-- ---- the body

once : (limit : ℕ) (bytes : List ℕ) (xs ys : List Chunk) (at bt : List ℕ) (o p : Ending) (r q : List ℕ) → AllByRecursion IsChunk xs → AllByRecursion IsChunk ys
    → bytes ≡ print_chunks xs ++ at → bytes ≡ print_chunks ys ++ bt → length (content_of xs) ≤ limit → length (content_of ys) ≤ limit
    → IsEndAt (limit - length (content_of xs)) at o r → IsEndAt (limit - length (content_of ys)) bt p q
    → Same o p r q × (o ≡ Whole → content_of xs ≡ content_of ys)
once limit bytes [] [] at bt o p r q ax ay tx ty lx ly ex ey =
    (end_same (limit - 0) bytes o p r q (subst (λ (l : List ℕ). IsEndAt (limit - 0) l o r) (sym tx) ex) (subst (λ (l : List ℕ). IsEndAt (limit - 0) l p q) (sym ty) ey), λ _. refl)
once limit bytes [] (y ∷ ys) at bt o p r q ax ay tx ty lx ly ex ey =
    absurd (no_end (limit - 0) bytes o r y (print_chunks ys ++ bt) ay.0 (ty ∙ append_assoc (print_chunk y) (print_chunks ys) bt)
    (omega (arith, ly, length-append y.content (content_of ys))) (subst (λ (l : List ℕ). IsEndAt (limit - 0) l o r) (sym tx) ex))
once limit bytes (x ∷ xs) [] at bt o p r q ax ay tx ty lx ly ex ey =
    absurd (no_end (limit - 0) bytes p q x (print_chunks xs ++ at) ax.0 (tx ∙ append_assoc (print_chunk x) (print_chunks xs) at)
    (omega (arith, lx, length-append x.content (content_of xs))) (subst (λ (l : List ℕ). IsEndAt (limit - 0) l p q) (sym ty) ey))
once limit bytes (x ∷ xs) (y ∷ ys) at bt o p r q ax ay tx ty lx ly ex ey =
    let same = chunk_once x y bytes (print_chunks xs ++ at) (print_chunks ys ++ bt) ax.0 ay.0
    (tx ∙ append_assoc (print_chunk x) (print_chunks xs) at) (ty ∙ append_assoc (print_chunk y) (print_chunks ys) bt) in
    let n = length x.content in
    let long : length y.content ≡ n = ap length (sym same.0) in
    let roomx : limit - length (content_of (x ∷ xs)) ≡ (limit - n) - length (content_of xs) = omega (arith, length-append x.content (content_of xs)) in
    let roomy : limit - length (content_of (y ∷ ys)) ≡ (limit - n) - length (content_of ys) = omega (arith, length-append y.content (content_of ys), long) in
    let rest = once (limit - n) (print_chunks xs ++ at) xs ys at bt o p r q ax.1 ay.1 refl same.1
    (omega (arith, lx, length-append x.content (content_of xs))) (omega (arith, ly, long, length-append y.content (content_of ys)))
    (subst (λ k. IsEndAt k at o r) roomx ex) (subst (λ k. IsEndAt k bt p q) roomy ey) in
    (rest.0, λ whole. ap (λ (l : List ℕ). l ++ content_of xs) same.0 ∙ ap (λ (l : List ℕ). y.content ++ l) (rest.1 whole))

pub one_chunked : (limit : ℕ) (bytes : List ℕ) (o p : Ending) (b c r q : List ℕ) → HasChunkedBody limit bytes o b r → HasChunkedBody limit bytes p c q
    → (o ≡ p) × (o ≡ Whole → (b ≡ c) × (r ≡ q))
one_chunked limit bytes o p b c r q x y =
    let same = once limit bytes x.chunks y.chunks x.at y.at o p r q x.has.each y.has.each x.has.bytes_are y.has.bytes_are x.has.within y.has.within x.ends y.ends in
    (same.0.0, λ whole. (x.joined whole ∙ same.1 whole ∙ sym (y.joined (sym same.0.0 ∙ whole)), same.0.1 whole))

-- ---- a body by its length

one_measured : (size : ℕ) (bytes : List ℕ) (o p : Ending) (b c r q : List ℕ) → HasMeasuredBody size bytes o b r → HasMeasuredBody size bytes p c q
    → (o ≡ p) × (o ≡ Whole → (b ≡ c) × (r ≡ q))
one_measured size bytes o p b c r q (inl x) (inl y) = (x.0 ∙ sym y.0, λ _. same_length b c r q (x.1 ∙ sym y.1) (sym x.2 ∙ y.2))
one_measured size bytes o p b c r q (inl x) (inr y) = absurd (omega (arith, x.1, ap length x.2, length-append b r, y.1))
one_measured size bytes o p b c r q (inr x) (inl y) = absurd (omega (arith, y.1, ap length y.2, length-append c q, x.1))
one_measured size bytes o p b c r q (inr x) (inr y) = (x.0 ∙ sym y.0, λ whole. absurd (part_not_whole (sym x.0 ∙ whole)))

pub one_body : (limit : ℕ) (coding : Coding) (bytes : List ℕ) (o p : Ending) (b c r q : List ℕ) → HasBody limit coding bytes o b r → HasBody limit coding bytes p c q
    → (o ≡ p) × (o ≡ Whole → (b ≡ c) × (r ≡ q))
one_body limit (codings.Length size) bytes o p b c r q x y = one_measured size bytes o p b c r q x y
one_body limit codings.Chunked bytes o p b c r q x y = one_chunked limit bytes o p b c r q x y

-- ---- more bytes after these

front-append : (n : ℕ) (xs ys : List ℕ) → (z : List ℕ) × (take n (xs ++ ys) ≡ take n xs ++ z)
front-append n xs ys =
    elim (cases_lt n (length xs)) [
      | inl low ↦ ([], take-append-le n xs ys (omega (arith, low)) ∙ sym (append-nil (take n xs)))
      | inr high ↦
          let split : n ≡ length xs + (n - length xs) = omega (arith, high) in (
            take (n - length xs) ys,
            ap (λ k. take k (xs ++ ys)) split ∙ take-append-add xs ys (n - length xs) ∙ ap (λ (l : List ℕ). l ++ take (n - length xs) ys) (sym (take_all n xs high)),
          )
    ]

never-append : (xs more : List ℕ) → NeverHasChunkLine xs → NeverHasChunkLine (xs ++ more)
never-append xs more never next l rest read = never (more ++ next) l rest (read.0, sym (append_assoc xs more next) ∙ read.1)

wrong_line-append : (bytes more : List ℕ) → HasWrongLine bytes → HasWrongLine (bytes ++ more)
wrong_line-append bytes more (inl never) =
    let front = front-append LINE_LIMIT bytes more in
    inl (subst NeverHasChunkLine (sym front.1) (never-append (take LINE_LIMIT bytes) front.0 never))
wrong_line-append bytes more (inr none) =
    inr (omega (arith, none.0, length-append bytes more), subst HasNoChunkLine (sym (take-append-le LINE_LIMIT bytes more none.0)) none.1)

no_crlf-append : (xs ys : List ℕ) → IsNoCrlf xs → IsNoCrlf (xs ++ ys)
no_crlf-append [] ys broken = absurd broken
no_crlf-append (a ∷ []) [] broken = broken
no_crlf-append (a ∷ []) (y ∷ ys) broken = inl broken
no_crlf-append (a ∷ b ∷ xs) ys broken = broken

wrong_data-append : (size : ℕ) (bytes more : List ℕ) → HasWrongData size bytes → HasWrongData size (bytes ++ more)
wrong_data-append size bytes more wrong =
    (omega (arith, wrong.0, length-append bytes more), subst IsNoCrlf (sym (drop-append-le size bytes more wrong.0)) (no_crlf-append (drop size bytes) more wrong.1))

trailer-append : (bytes more rest : List ℕ) → HasTrailer bytes rest → HasTrailer (bytes ++ more) (rest ++ more)
trailer-append bytes more rest has = record {
  count = has.count;
  within = omega (arith, has.within, length-append bytes more);
  short = has.short;
  ends = ap is_trailer (take-append-le has.count bytes more has.within) ∙ has.ends;
  first = λ m low. ap is_trailer (take-append-le m bytes more (omega (arith, low, has.within))) ∙ has.first m low;
  rest_is = ap (λ (l : List ℕ). l ++ more) has.rest_is ∙ sym (drop-append-le has.count bytes more has.within);
}

wrong_trailer-append : (bytes more : List ℕ) → HasWrongTrailer bytes → HasWrongTrailer (bytes ++ more)
wrong_trailer-append bytes more wrong =
    (omega (arith, wrong.0, length-append bytes more), λ m low. ap is_trailer (take-append-le m bytes more (omega (arith, low, wrong.0))) ∙ wrong.1 m low)

-- an ending stays the same if more bytes follow, unless the bytes end there
trailer_end-append : (bytes more : List ℕ) (o : Ending) (rest : List ℕ) → o ≢ Part → EndsInTrailer bytes o rest → EndsInTrailer (bytes ++ more) o (rest ++ more)
trailer_end-append bytes more o rest stays (inl x) = inl (x.0, trailer-append bytes more rest x.1)
trailer_end-append bytes more o rest stays (inr (inl x)) = inr (inl (x.0, wrong_trailer-append bytes more x.1))
trailer_end-append bytes more o rest stays (inr (inr x)) = absurd (stays x.0)

data_end-append : (size : ℕ) (bytes more : List ℕ) (o : Ending) → o ≢ Part → EndsInData size bytes o → EndsInData size (bytes ++ more) o
data_end-append size bytes more o stays (inl x) = inl (x.0, wrong_data-append size bytes more x.1)
data_end-append size bytes more o stays (inr x) = absurd (stays x.0)

behind_size-append : (room size : ℕ) (bytes more : List ℕ) (o : Ending) (rest : List ℕ) → o ≢ Part → EndsBehindSize room size bytes o rest
    → EndsBehindSize room size (bytes ++ more) o (rest ++ more)
behind_size-append room size bytes more o rest stays (inl x) = inl x
behind_size-append room size bytes more o rest stays (inr (inl x)) = inr (inl (x.0, trailer_end-append bytes more o rest stays x.1))
behind_size-append room size bytes more o rest stays (inr (inr x)) = inr (inr (x.0, x.1, data_end-append size bytes more o stays x.2))

end-append : (room : ℕ) (bytes more : List ℕ) (o : Ending) (rest : List ℕ) → o ≢ Part → IsEndAt room bytes o rest → IsEndAt room (bytes ++ more) o (rest ++ more)
end-append room bytes more o rest stays (inl (inl x)) = inl (inl (x.0, wrong_line-append bytes more x.1))
end-append room bytes more o rest stays (inl (inr x)) = absurd (stays x.0)
end-append room bytes more o rest stays (inr (size, tail, line, after)) =
    inr (size, tail ++ more, size-append bytes more size tail line, behind_size-append room size tail more o rest stays after)

measured-append : (size : ℕ) (bytes more : List ℕ) (o : Ending) (body rest : List ℕ) → o ≢ Part → HasMeasuredBody size bytes o body rest
    → HasMeasuredBody size (bytes ++ more) o body (rest ++ more)
measured-append size bytes more o body rest stays (inl x) =
    inl (x.0, x.1, ap (λ (l : List ℕ). l ++ more) x.2 ∙ append_assoc body rest more)
measured-append size bytes more o body rest stays (inr x) = absurd (stays x.0)

-- a body stays the same if more bytes follow
pub body-append : (limit : ℕ) (coding : Coding) (bytes more : List ℕ) (o : Ending) (body rest : List ℕ) → o ≢ Part → HasBody limit coding bytes o body rest
    → HasBody limit coding (bytes ++ more) o body (rest ++ more)
body-append limit (codings.Length size) bytes more o body rest stays has = measured-append size bytes more o body rest stays has
body-append limit codings.Chunked bytes more o body rest stays has = record {
  chunks = has.chunks;
  at = has.at ++ more;
  has = chunks-append limit bytes more has.chunks has.at has.has;
  ends = end-append (limit - length (content_of has.chunks)) has.at more o rest stays has.ends;
  joined = has.joined;
}
