-- What a head's text is read as.
use Rattle.std.proofs.Common.{◌≡◌, ℕ, ◌+◌, ◌<◌, ◌≤◌, Option, None, Result, arith, List, ◌∷◌, [], ◌++◌, length, get_or, take, refl, sym, Ok, Err, IfErr, inl, inr, ap, ◌∙◌}
use Rattle.std.proofs.lemmas.List.{take_more, map-append}
use Rattle.httparse.specs.Grammar.{RequestHead}
use Rattle.httparse.specs.Spans.{header_bytes}
use Rattle.httparse.specs.declared.spans.HeaderSpan.{HeaderSpan}
use Rattle.httparse.proofs.GrammarLemmas.{request_unique}
use Rattle.fedi_town.specs.declared.refusal.Refusal.{Refusal}
use Rattle.fedi_town.specs.declared.refusal.Refusal.TheVariants.{Memory}
use Rattle.fedi_model.specs.declared.request.Request.{Request}
use Rattle.fedi_model.specs.Requests.{field_of, fields_at, request_of, head_refusal, line_count, IsHead, ReadsAs, ReadsHead, IsReadOnce}

-- the fields at one more position
pub fields_more : (text : List ℕ) (spans : List HeaderSpan) (i : ℕ) (d : HeaderSpan) → i < length spans
    → fields_at text (take (i + 1) spans) ≡ fields_at text (take i spans) ++ field_of (header_bytes text (get_or spans i d)) ∷ []
fields_more text spans i d h =
    ap (λ (xs : List HeaderSpan). fields_at text xs) (take_more spans i d h)
    ∙ simp map-append

-- a text is at most one head
one_head : (most : ℕ) (text : List ℕ) (h k : RequestHead) → IsHead most text h → IsHead most text k → h ≡ k
one_head most text h k head other = (request_unique text h k [] [] head.0 other.0).0

-- if a head is read as a request, it is not refused
read_or_refused : (most : ℕ) (text : List ℕ) (q : Request) (e : Refusal) → ReadsHead most text (Ok q) → ReadsHead most text (Err e) → ⊥
read_or_refused most text q e (h, head, served, q_is) (inl (k, other, refused)) =
    let same : head_refusal k ≡ head_refusal h = ap head_refusal (one_head most text k h other head) in cc
read_or_refused most text q e (h, head, served, q_is) (inr (bad, none)) = absurd (none h head)

-- a head is refused for one reason
refused_once : (most : ℕ) (text : List ℕ) (d e : Refusal) → ReadsHead most text (Err d) → ReadsHead most text (Err e) → d ≡ e
refused_once most text d e (inl (h, head, first)) (inl (k, other, second)) =
    let same : head_refusal h ≡ head_refusal k = ap head_refusal (one_head most text h k head other) in cc
refused_once most text d e (inl (h, head, first)) (inr (bad, none)) = absurd (none h head)
refused_once most text d e (inr (bad, none)) (inl (h, head, first)) = absurd (none h head)
refused_once most text d e (inr (bad, none)) (inr (same, lacks)) = bad ∙ sym same

-- two requests that are read from one text are those of one head
read_one : (most : ℕ) (text : List ℕ) (p q : Request) → ReadsHead most text (Ok p) → ReadsHead most text (Ok q) → p ≡ q
read_one most text p q (h, head, served, p_is) (k, other, also, q_is) =
    p_is ∙ (ap request_of (one_head most text h k head other) ∙ sym q_is)

head_read_once : (most : ℕ) (text : List ℕ) (a b : Result Request Refusal) → ReadsHead most text a → ReadsHead most text b → a ≡ b
head_read_once most text (Ok p) (Ok q) x y = ap Ok (read_one most text p q x y)
head_read_once most text (Ok p) (Err e) x y = absurd (read_or_refused most text p e x y)
head_read_once most text (Err e) (Ok q) x y = absurd (read_or_refused most text q e y x)
head_read_once most text (Err d) (Err e) x y = ap Err (refused_once most text d e x y)

-- a text is read in at most one way
pub reads_once : (most : ℕ) (text : List ℕ) → IsReadOnce most text
reads_once most text a b (inl x) (inl y) = head_read_once most text a b x.1 y.1
reads_once most text a b (inl x) (inr y) = absurd (omega (arith, x.0, y.0))
reads_once most text a b (inr x) (inl y) = absurd (omega (arith, x.0, y.0))
reads_once most text a b (inr x) (inr y) = x.1 ∙ sym y.1

-- if memory ran out for a head that is not refused, some request is read
pub memory_wanted : {T : Type 0} (most : ℕ) (text : List ℕ) (h : RequestHead) (x : Option Refusal) (r : Result T Refusal) → IfErr r (λ e. e ≡ Memory → x ≡ None) → x ≡ head_refusal h
    → line_count text ≤ most → IsHead most text h → IfErr r (λ e. e ≡ Memory → (q : Request) × ReadsAs most text (Ok q))
memory_wanted most text h x (Ok t) wanted same few head = tt
memory_wanted most text h x (Err e) wanted same few head = λ is. (request_of h, inl (few, (h, head, sym same ∙ wanted is, refl)))
