-- Lemmas on what arrives at the front of a stream.
use Rattle.std.proofs.Common.{◌≡◌, ◌≢◌, ℕ, ◌<◌, Bool, false, List, [], ◌++◌, length, take, drop, Option, None, Some, IfErr, IfSome, Result, Ok, Err, inl, inr, refl, sym, ap, subst, ◌∙◌, arith, append_assoc, append-nil, length-append}
use Rattle.std.proofs.lemmas.List.{take_all, take-append-le, drop-append-le}
use Rattle.std.specs.Io.KnownBytes.{Consumes, IsAtEnd, prepend_known}
use Rattle.std.specs.List.{slice_range}
use Rattle.std.specs.Result.{result_and}
use Rattle.fedi_town.specs.declared.refusal.Refusal.{Refusal}
use Rattle.fedi_town.specs.declared.refusal.Refusal.TheVariants as refusals
use Rattle.fedi_model.specs.declared.request.Request.{Request}
use Rattle.fedi_model.specs.declared.request.TheConstants.{BODY_LIMIT}
use Rattle.fedi_model.specs.Requests.{ReadsAs}
use Rattle.fedi_http.specs.declared.arrivals.Arrived.{Arrived}
use Rattle.fedi_http.specs.declared.arrivals.Arrived.TheVariants as arrived
use Rattle.fedi_http.specs.declared.read_error.ReadError.{ReadError}
use Rattle.fedi_http.specs.declared.read_error.ReadError.TheVariants as errors
use Rattle.fedi_http.specs.Arrivals.{BodyEnds, HasHead, HasRequest, HasServedHead, IsArrival, IsHeadRefused, IsRefused, LacksRequest, OnInputEnd, OnRequest, TellsOfStream, arrived_by, arrived_of, is_read_fault}
use Rattle.fedi_http.specs.Chunks.{Ending, HasBody, HasPartOfBody, Long, Part, Tells, TellsEnding, Whole, Wrong}
use Rattle.fedi_http.specs.Heads.{head_end, HasLongHead, HasNoHead, LacksHead}
use Rattle.fedi_http.specs.Moves.{OnEnd, Reads, error_by, has_fault, is_fault}
use Rattle.fedi_http.proofs.HeadLemmas.{is_head-append, slice_range-append}
use Rattle.fedi_http.proofs.OnceLemmas.{body-append, one_body}
use Rattle.fedi_http.proofs.ReadLemmas.{reads_as, reads_on, told_as}
use Rattle.fedi_http.proofs.RequestLemmas.{reads_once}

-- ---- more bytes after these

has_head-append : (limit most : ℕ) (xs ys : List ℕ) (outcome : Result Request Refusal) (end : ℕ)
    → HasHead limit most xs outcome end → HasHead limit most (xs ++ ys) outcome end
has_head-append limit most xs ys outcome end has = record {
  start = has.start;
  head = is_head-append limit xs ys has.start end has.head;
  reads = subst (λ (text : List ℕ). ReadsAs most text outcome) (sym (slice_range-append xs ys has.start end (omega (arith, has.head.ordered)) has.head.within)) has.reads;
}

request-append : (limit most : ℕ) (xs ys : List ℕ) (q : Request) (o : Ending) (body rest : List ℕ) → o ≢ Part → HasRequest limit most xs q o body rest
    → HasRequest limit most (xs ++ ys) q o body (rest ++ ys)
request-append limit most xs ys q o body rest stays has = record {
  end = has.end;
  head = has_head-append limit most xs ys (Ok q) has.end has.head;
  content = subst (λ (l : List ℕ). HasBody BODY_LIMIT q.coding l o body (rest ++ ys)) (sym (drop-append-le has.end xs ys has.head.head.within))
      (body-append BODY_LIMIT q.coding (drop has.end xs) ys o body rest stays has.content);
}

ends-append : (limit most : ℕ) (xs ys : List ℕ) (o : Ending) → o ≢ Part → BodyEnds limit most xs o → BodyEnds limit most (xs ++ ys) o
ends-append limit most xs ys o stays (q, body, rest, has) = (q, body, rest ++ ys, request-append limit most xs ys q o body rest stays has)

too_long-append : (limit : ℕ) (xs ys : List ℕ) → HasLongHead limit xs → HasLongHead limit (xs ++ ys)
too_long-append limit xs ys long = (omega (arith, long.0, length-append xs ys), ap head_end (take-append-le limit xs ys long.0) ∙ long.1)

refused-append : (limit most : ℕ) (xs ys : List ℕ) (e : Refusal) → IsRefused limit most xs e → IsRefused limit most (xs ++ ys) e
refused-append limit most xs ys e (inl (inl (end, has))) = inl (inl (end, has_head-append limit most xs ys (Err e) end has))
refused-append limit most xs ys e (inl (inr (is, long))) = inl (inr (is, too_long-append limit xs ys long))
refused-append limit most xs ys e (inr (inl (is, ends))) = inr (inl (is, ends-append limit most xs ys Wrong (λ same. cc) ends))
refused-append limit most xs ys e (inr (inr (is, ends))) = inr (inr (is, ends-append limit most xs ys Long (λ same. cc) ends))

-- if no more bytes come
no_more : (P : List ℕ → Type 0) (xs ys : List ℕ) → ys ≡ [] → P xs → P (xs ++ ys)
no_more P xs ys none holds = subst P (sym (append-nil xs) ∙ ap (λ (l : List ℕ). xs ++ l) (sym none)) holds

arrival-append : (limit most : ℕ) (xs ys : List ℕ) (a : Arrived) (body rest : List ℕ) → OnInputEnd a (ys ≡ []) → TellsOfStream a → IsArrival limit most xs a body rest
    → IsArrival limit most (xs ++ ys) a body (rest ++ ys)
arrival-append limit most xs ys (arrived.Request q) body rest ended tells is = request-append limit most xs ys q Whole body rest (λ same. cc) is
arrival-append limit most xs ys arrived.End body rest ended tells is = no_more (λ l. l ≡ []) xs ys ended is
arrival-append limit most xs ys arrived.CutShort body rest ended tells is = no_more (λ l. (0 < length l) × LacksRequest limit most l) xs ys ended is
arrival-append limit most xs ys (arrived.Refused e) body rest ended tells is = refused-append limit most xs ys e is
arrival-append limit most xs ys arrived.ReadFault body rest ended tells is = absurd tells
arrival-append limit most xs ys arrived.Memory body rest ended tells is = absurd tells

on_request : (a : Arrived) (P : Type 0) → P → OnRequest a P
on_request (arrived.Request q) P h = h
on_request arrived.End P h = tt
on_request arrived.CutShort P h = tt
on_request (arrived.Refused e) P h = tt
on_request arrived.ReadFault P h = tt
on_request arrived.Memory P h = tt

told_stream : (limit most : ℕ) (entry more : List ℕ) (old new : Option (List ℕ)) (a : Arrived) (body pending : List ℕ) → Consumes old new more
    → IsArrival limit most (entry ++ more) a body pending → OnInputEnd a (IsAtEnd new)
    → IfSome (prepend_known entry old)
    (λ stream. TellsOfStream a → (rest : List ℕ) × IsArrival limit most stream a body rest × OnRequest a (prepend_known pending new ≡ Some rest))
told_stream limit most entry more None new a body pending taken is ended = tt
told_stream limit most entry more (Some x) None a body pending taken is ended = absurd taken
told_stream limit most entry more (Some x) (Some y) a body pending taken is ended = λ tells. (
  pending ++ y,
  subst (λ (l : List ℕ). IsArrival limit most l a body (pending ++ y)) (append_assoc entry more y ∙ ap (λ (l : List ℕ). entry ++ l) (sym taken))
      (arrival-append limit most (entry ++ more) y a body pending ended tells is),
  on_request a (Some (pending ++ y) ≡ Some (pending ++ y)) refl,
)

-- what arrived at the front of the bytes that were read arrived at the front of the stream
pub told_arrival : {T : Type 0} (left_of : T → Option (List ℕ)) (faults_of : T → ℕ) (beside_of : T → Option (List ℕ) × ℕ) (old new : T) (failed : Bool) (Lacks : Type 0)
    (limit most : ℕ) (entry : List ℕ) (a : Arrived) (body pending : List ℕ)
    → Reads left_of faults_of beside_of old new failed Lacks (λ m. IsArrival limit most (entry ++ m) a body pending) → OnInputEnd a (IsAtEnd (left_of new))
    → IfSome (prepend_known entry (left_of old))
    (λ stream. TellsOfStream a → (rest : List ℕ) × IsArrival limit most stream a body rest × OnRequest a (prepend_known pending (left_of new) ≡ Some rest))
told_arrival left_of faults_of beside_of old new failed Lacks limit most entry a body pending read ended =
    told_stream limit most entry read.more (left_of old) (left_of new) a body pending read.taken read.holds ended

-- ---- what was read

some_byte : (limit most : ℕ) (bytes : List ℕ) (outcome : Result Request Refusal) (end : ℕ) → HasHead limit most bytes outcome end → 0 < length bytes
some_byte limit most bytes outcome end has = omega (arith, has.head.ordered, has.head.within)

-- if no head was read
pub no_head_arrives : (limit most : ℕ) (bytes : List ℕ) (e : ReadError) (body rest : List ℕ) → HasNoHead limit bytes e → IsArrival limit most bytes (arrived_by e) body rest
no_head_arrives limit most bytes errors.End body rest h = h
no_head_arrives limit most bytes errors.CutShort body rest h = (h.0, inl h.1)
no_head_arrives limit most bytes (errors.Refused refusal) body rest h = inl (inr h)
no_head_arrives limit most bytes errors.ReadFault body rest h = inl h
no_head_arrives limit most bytes errors.Memory body rest h = inl h

-- if the head was refused
pub refused_arrives : (limit most : ℕ) (bytes : List ℕ) (e : Refusal) (end : ℕ) (body rest : List ℕ) → (e ≢ refusals.Memory → HasHead limit most bytes (Err e) end)
    → (e ≡ refusals.Memory → HasServedHead limit most bytes)
    → IsArrival limit most bytes (arrived_by (error_by e)) body rest
refused_arrives limit most bytes refusals.Memory end body rest h k = inr (k refl)
refused_arrives limit most bytes e end body rest h k = inl (inl (end, h (λ same. cc)))

-- a refusal is not a failed read
pub refusal_calm : (e : Refusal) → is_fault (error_by e) ≡ false
refusal_calm refusals.Memory = refl
refusal_calm e = refl

-- the head was read, and is refused
pub head_unread : {T : Type 0} (left_of : T → Option (List ℕ)) (faults_of : T → ℕ) (beside_of : T → Option (List ℕ) × ℕ) (a b : T) (limit most : ℕ)
    (entry mid : List ℕ) (e : ReadError) (body pending : List ℕ) → Reads left_of faults_of beside_of a b false (LacksHead limit entry) (λ m. mid ≡ entry ++ m)
    → is_fault e ≡ false → IsArrival limit most mid (arrived_by e) body pending
    → Reads left_of faults_of beside_of a b (is_fault e) (LacksRequest limit most entry) (λ m. IsArrival limit most (entry ++ m) (arrived_by e) body pending)
head_unread left_of faults_of beside_of a b limit most entry mid e body pending read calm arrives =
    subst (λ (failed : Bool). Reads left_of faults_of beside_of a b failed (LacksRequest limit most entry) (λ m. IsArrival limit most (entry ++ m) (arrived_by e) body pending)) (sym calm)
    (reads_as left_of faults_of beside_of a b false (LacksHead limit entry) (LacksRequest limit most entry) (λ m. mid ≡ entry ++ m)
    (λ m. IsArrival limit most (entry ++ m) (arrived_by e) body pending) read (λ lacks. inl lacks)
    (λ m is. subst (λ (l : List ℕ). IsArrival limit most l (arrived_by e) body pending) is arrives))

-- if the body was not read
body_arrives : (limit most : ℕ) (bytes : List ℕ) (q : Request) (e : ReadError) (body rest : List ℕ) → Tells e (λ o. HasRequest limit most bytes q o body rest)
    → IsArrival limit most bytes (arrived_by e) body rest
body_arrives limit most bytes q errors.End body rest told = absurd told
body_arrives limit most bytes q errors.CutShort body rest told = (some_byte limit most bytes (Ok q) told.end told.head, inr (q, body, rest, told))
body_arrives limit most bytes q (errors.Refused refusal) body rest (inl wrong) = inr (inl (wrong.0, (q, body, rest, wrong.1)))
body_arrives limit most bytes q (errors.Refused refusal) body rest (inr long) = inr (inr (long.0, (q, body, rest, long.1)))
body_arrives limit most bytes q errors.ReadFault body rest told = inr (q, body, rest, told)
body_arrives limit most bytes q errors.Memory body rest told = inr (q, told.end, told.head)

-- a head and the bytes after it
abbrev IsBehind : ℕ → ℕ → List ℕ → Request → List ℕ → Type 0
IsBehind limit most bytes q rest = (end : ℕ) × HasHead limit most bytes (Ok q) end × (rest ≡ drop end bytes)

behind_told : (limit most : ℕ) (bytes more : List ℕ) (q : Request) (o : Ending) (rest body pending : List ℕ) → IsBehind limit most bytes q rest
    → HasBody BODY_LIMIT q.coding (rest ++ more) o body pending → HasRequest limit most (bytes ++ more) q o body pending
behind_told limit most bytes more q o rest body pending (end, has, is) content = record {
  end = end;
  head = has_head-append limit most bytes more (Ok q) end has;
  content = subst (λ (l : List ℕ). HasBody BODY_LIMIT q.coding l o body pending)
      (ap (λ (l : List ℕ). l ++ more) is ∙ sym (drop-append-le end bytes more has.head.within)) content;
}

lacks_body : (limit most : ℕ) (bytes : List ℕ) (q : Request) (rest : List ℕ) → IsBehind limit most bytes q rest → HasPartOfBody BODY_LIMIT q.coding rest → LacksRequest limit most bytes
lacks_body limit most bytes q rest (end, has, is) (body, tail, part) =
    inr (q, body, tail, record { end = end; head = has; content = subst (λ (l : List ℕ). HasBody BODY_LIMIT q.coding l Part body tail) is part })

-- a head was read as this request, and the bytes after it are pending
pub behind_head : {T : Type 0} (left_of : T → Option (List ℕ)) (faults_of : T → ℕ) (beside_of : T → Option (List ℕ) × ℕ) (a b : T) (limit most : ℕ)
    (entry mid rest : List ℕ) (q : Request) (end : ℕ) → Reads left_of faults_of beside_of a b false (LacksHead limit entry) (λ m. mid ≡ entry ++ m)
    → HasHead limit most mid (Ok q) end → rest ≡ drop end mid → Reads left_of faults_of beside_of a b false (LacksHead limit entry) (λ m. IsBehind limit most (entry ++ m) q rest)
behind_head left_of faults_of beside_of a b limit most entry mid rest q end read has is = record {
  more = read.more;
  taken = read.taken;
  holds = subst (λ (l : List ℕ). IsBehind limit most l q rest) read.holds (end, has, is);
  idle = read.idle;
  beside = read.beside;
  faults = read.faults;
}

-- then its body was read, or not
body_read : {T : Type 0} (left_of : T → Option (List ℕ)) (faults_of : T → ℕ) (beside_of : T → Option (List ℕ) × ℕ) (a b c : T) (failed : Bool) (limit most : ℕ)
    (entry rest : List ℕ) (q : Request) (body pending : List ℕ)
    → Reads left_of faults_of beside_of a b false (LacksHead limit entry) (λ m. IsBehind limit most (entry ++ m) q rest)
    → Reads left_of faults_of beside_of b c failed (HasPartOfBody BODY_LIMIT q.coding rest) (λ k. HasBody BODY_LIMIT q.coding (rest ++ k) Whole body pending)
    → Reads left_of faults_of beside_of a c failed (LacksRequest limit most entry) (λ m. IsArrival limit most (entry ++ m) (arrived.Request q) body pending)
body_read left_of faults_of beside_of a b c failed limit most entry rest q body pending head content =
    reads_on left_of faults_of beside_of a b c failed entry (LacksHead limit entry) (HasPartOfBody BODY_LIMIT q.coding rest) (LacksRequest limit most entry)
    (λ bytes. IsBehind limit most bytes q rest) (λ k. HasBody BODY_LIMIT q.coding (rest ++ k) Whole body pending) (λ bytes. HasRequest limit most bytes q Whole body pending)
    head content (λ lacks. inl lacks) (λ is part. lacks_body limit most entry q rest is part)
    (λ bytes k is has. behind_told limit most bytes k q Whole rest body pending is has)

body_unread : {T : Type 0} (left_of : T → Option (List ℕ)) (faults_of : T → ℕ) (beside_of : T → Option (List ℕ) × ℕ) (a b c : T) (failed : Bool) (limit most : ℕ)
    (entry rest : List ℕ) (q : Request) (e : ReadError) (body pending : List ℕ)
    → Reads left_of faults_of beside_of a b false (LacksHead limit entry) (λ m. IsBehind limit most (entry ++ m) q rest)
    → Reads left_of faults_of beside_of b c failed (HasPartOfBody BODY_LIMIT q.coding rest) (λ k. Tells e (λ o. HasBody BODY_LIMIT q.coding (rest ++ k) o body pending))
    → Reads left_of faults_of beside_of a c failed (LacksRequest limit most entry) (λ m. IsArrival limit most (entry ++ m) (arrived_by e) body pending)
body_unread left_of faults_of beside_of a b c failed limit most entry rest q e body pending head content =
    reads_on left_of faults_of beside_of a b c failed entry (LacksHead limit entry) (HasPartOfBody BODY_LIMIT q.coding rest) (LacksRequest limit most entry)
    (λ bytes. IsBehind limit most bytes q rest) (λ k. Tells e (λ o. HasBody BODY_LIMIT q.coding (rest ++ k) o body pending))
    (λ bytes. IsArrival limit most bytes (arrived_by e) body pending)
    head content (λ lacks. inl lacks) (λ is part. lacks_body limit most entry q rest is part)
    (λ bytes k is told. body_arrives limit most (bytes ++ k) q e body pending
    (told_as e (λ o. HasBody BODY_LIMIT q.coding (rest ++ k) o body pending) (λ o. HasRequest limit most (bytes ++ k) q o body pending)
    (λ o has. behind_told limit most bytes k q o rest body pending is has) told))

-- the answer is the request if the body was read, and otherwise the error
pub body_told : {T V : Type 0} (left_of : T → Option (List ℕ)) (faults_of : T → ℕ) (beside_of : T → Option (List ℕ) × ℕ) (a b c : T) (limit most : ℕ)
    (entry rest : List ℕ) (q : Request) (r : Result V ReadError) (body pending : List ℕ)
    → Reads left_of faults_of beside_of a b false (LacksHead limit entry) (λ m. IsBehind limit most (entry ++ m) q rest)
    → Reads left_of faults_of beside_of b c (has_fault r) (HasPartOfBody BODY_LIMIT q.coding rest) (λ k. TellsEnding r (λ o. HasBody BODY_LIMIT q.coding (rest ++ k) o body pending))
    → Reads left_of faults_of beside_of a c (has_fault (result_and r (Ok q))) (LacksRequest limit most entry)
    (λ m. IsArrival limit most (entry ++ m) (arrived_of (result_and r (Ok q))) body pending)
body_told left_of faults_of beside_of a b c limit most entry rest q (Ok done) body pending head content =
    body_read left_of faults_of beside_of a b c false limit most entry rest q body pending head content
body_told left_of faults_of beside_of a b c limit most entry rest q (Err e) body pending head content =
    body_unread left_of faults_of beside_of a b c (is_fault e) limit most entry rest q e body pending head content

pub body_ended : {V : Type 0} (q : Request) (r : Result V ReadError) (P : Type 0) → IfErr r (λ e. OnEnd e P) → IfErr (result_and r (Ok q)) (λ e. OnEnd e P)
body_ended q (Ok done) P ended = tt
body_ended q (Err e) P ended = ended

-- ---- the answer of an error

pub error_ended : (e : ReadError) (P : Type 0) → OnEnd e P → OnInputEnd (arrived_by e) P
error_ended errors.End P h = h
error_ended errors.CutShort P h = h
error_ended (errors.Refused refusal) P h = tt
error_ended errors.ReadFault P h = tt
error_ended errors.Memory P h = tt

fault-is : (e : ReadError) → is_read_fault (arrived_by e) ≡ is_fault e
fault-is errors.End = refl
fault-is errors.CutShort = refl
fault-is (errors.Refused refusal) = refl
fault-is errors.ReadFault = refl
fault-is errors.Memory = refl

-- the answer reports an error
pub error_arrives : {T : Type 0} (left_of : T → Option (List ℕ)) (faults_of : T → ℕ) (beside_of : T → Option (List ℕ) × ℕ) (a b : T) (limit most : ℕ)
    (entry : List ℕ) (e : ReadError) (answer : Arrived) (body pending : List ℕ) → answer ≡ arrived_by e
    → Reads left_of faults_of beside_of a b (is_fault e) (LacksRequest limit most entry) (λ m. IsArrival limit most (entry ++ m) (arrived_by e) body pending)
    → Reads left_of faults_of beside_of a b (is_read_fault answer) (LacksRequest limit most entry) (λ m. IsArrival limit most (entry ++ m) answer body pending)
error_arrives left_of faults_of beside_of a b limit most entry e answer body pending is read =
    subst (λ (x : Arrived). Reads left_of faults_of beside_of a b (is_read_fault x) (LacksRequest limit most entry) (λ m. IsArrival limit most (entry ++ m) x body pending)) (sym is)
    (subst (λ (failed : Bool). Reads left_of faults_of beside_of a b failed (LacksRequest limit most entry) (λ m. IsArrival limit most (entry ++ m) (arrived_by e) body pending))
    (sym (fault-is e)) read)

-- ---- one thing arrives

-- there is one head at the front, and it is read in one way
head_once : (limit most : ℕ) (bytes : List ℕ) (one other : Result Request Refusal) (end last : ℕ)
    → HasHead limit most bytes one end → HasHead limit most bytes other last → (one ≡ other) × (end ≡ last)
head_once limit most bytes one other end last x y =
    let texts : Some (slice_range bytes x.start end) ≡ Some (slice_range bytes y.start last) = sym x.head.text ∙ y.head.text in
    let same : slice_range bytes x.start end ≡ slice_range bytes y.start last = cc in
    let ends : Some end ≡ Some last = sym x.head.ends ∙ y.head.ends in
    (reads_once most (slice_range bytes y.start last) one other (subst (λ (text : List ℕ). ReadsAs most text one) same x.reads) y.reads, cc)

head_not_lacking : (limit most : ℕ) (bytes : List ℕ) (outcome : Result Request Refusal) (end : ℕ) → HasHead limit most bytes outcome end → LacksHead limit bytes → ⊥
head_not_lacking limit most bytes outcome end has (few, none) =
    let all : take limit bytes ≡ bytes = take_all limit bytes (omega arith) in
    let e : Some end ≡ None = sym has.head.ends ∙ ap head_end all ∙ none in cc

head_not_long : (limit most : ℕ) (bytes : List ℕ) (outcome : Result Request Refusal) (end : ℕ) → HasHead limit most bytes outcome end → HasLongHead limit bytes → ⊥
head_not_long limit most bytes outcome end has (many, none) = let e : Some end ≡ None = sym has.head.ends ∙ none in cc

ok_not_err : (limit most : ℕ) (bytes : List ℕ) (q : Request) (e : Refusal) (end last : ℕ) → HasHead limit most bytes (Ok q) end → HasHead limit most bytes (Err e) last → ⊥
ok_not_err limit most bytes q e end last x y = let same : Ok q ≡ Err e = (head_once limit most bytes (Ok q) (Err e) end last x y).0 in cc

-- there is one request, and it ends in one way
request_once : (limit most : ℕ) (bytes : List ℕ) (q p : Request) (o s : Ending) (b c r t : List ℕ) → HasRequest limit most bytes q o b r → HasRequest limit most bytes p s c t
    → (q ≡ p) × (o ≡ s) × (o ≡ Whole → (b ≡ c) × (r ≡ t))
request_once limit most bytes q p o s b c r t x y =
    let same = head_once limit most bytes (Ok q) (Ok p) x.end y.end x.head y.head in
    let request : q ≡ p = cc same.0 in
    let content = subst (λ (n : ℕ). HasBody BODY_LIMIT q.coding (drop n bytes) o b r) same.1 x.content in
    let bodies = one_body BODY_LIMIT p.coding (drop y.end bytes) o s b c r t (subst (λ (z : Request). HasBody BODY_LIMIT z.coding (drop y.end bytes) o b r) request content) y.content in
    (request, bodies.0, bodies.1)

ends_once : (limit most : ℕ) (bytes : List ℕ) (o s : Ending) → BodyEnds limit most bytes o → BodyEnds limit most bytes s → o ≡ s
ends_once limit most bytes o s (q, b, r, x) (p, c, t, y) = (request_once limit most bytes q p o s b c r t x y).1

-- if a body ends, its head is not refused, and a head is not lacking
ends_not_refused : (limit most : ℕ) (bytes : List ℕ) (o : Ending) (e : Refusal) → BodyEnds limit most bytes o → IsHeadRefused limit most bytes e → ⊥
ends_not_refused limit most bytes o e (q, b, r, x) (inl (last, has)) = ok_not_err limit most bytes q e x.end last x.head has
ends_not_refused limit most bytes o e (q, b, r, x) (inr (is, long)) = head_not_long limit most bytes (Ok q) x.end x.head long

ends_not_lacking : (limit most : ℕ) (bytes : List ℕ) (o : Ending) → o ≢ Part → BodyEnds limit most bytes o → LacksRequest limit most bytes → ⊥
ends_not_lacking limit most bytes o other (q, b, r, x) (inl lacks) = head_not_lacking limit most bytes (Ok q) x.end x.head lacks
ends_not_lacking limit most bytes o other x (inr part) = other (ends_once limit most bytes o Part x part)

refused_not_lacking : (limit most : ℕ) (bytes : List ℕ) (e : Refusal) → IsRefused limit most bytes e → LacksRequest limit most bytes → ⊥
refused_not_lacking limit most bytes e (inl (inl (end, has))) (inl lacks) = head_not_lacking limit most bytes (Err e) end has lacks
refused_not_lacking limit most bytes e (inl (inr (is, long))) (inl lacks) = absurd (omega (arith, long.0, lacks.0))
refused_not_lacking limit most bytes e (inl refused) (inr part) = ends_not_refused limit most bytes Part e part refused
refused_not_lacking limit most bytes e (inr (inl (is, ends))) lacks = ends_not_lacking limit most bytes Wrong (λ same. cc) ends lacks
refused_not_lacking limit most bytes e (inr (inr (is, ends))) lacks = ends_not_lacking limit most bytes Long (λ same. cc) ends lacks

whole_not_refused : (limit most : ℕ) (bytes : List ℕ) (e : Refusal) → BodyEnds limit most bytes Whole → IsRefused limit most bytes e → ⊥
whole_not_refused limit most bytes e whole (inl refused) = ends_not_refused limit most bytes Whole e whole refused
whole_not_refused limit most bytes e whole (inr (inl (is, ends))) = let same : Whole ≡ Wrong = ends_once limit most bytes Whole Wrong whole ends in cc
whole_not_refused limit most bytes e whole (inr (inr (is, ends))) = let same : Whole ≡ Long = ends_once limit most bytes Whole Long whole ends in cc

head_refusal_once : (limit most : ℕ) (bytes : List ℕ) (d e : Refusal) → IsHeadRefused limit most bytes d → IsHeadRefused limit most bytes e → d ≡ e
head_refusal_once limit most bytes d e (inl (end, x)) (inl (last, y)) =
    let same : Err d ≡ Err e = (head_once limit most bytes (Err d) (Err e) end last x y).0 in cc
head_refusal_once limit most bytes d e (inl (end, x)) (inr (is, long)) = absurd (head_not_long limit most bytes (Err d) end x long)
head_refusal_once limit most bytes d e (inr (is, long)) (inl (last, y)) = absurd (head_not_long limit most bytes (Err e) last y long)
head_refusal_once limit most bytes d e (inr (is, long)) (inr (also, far)) = is ∙ sym also

refusal_once : (limit most : ℕ) (bytes : List ℕ) (d e : Refusal) → IsRefused limit most bytes d → IsRefused limit most bytes e → d ≡ e
refusal_once limit most bytes d e (inl x) (inl y) = head_refusal_once limit most bytes d e x y
refusal_once limit most bytes d e (inl x) (inr (inl y)) = absurd (ends_not_refused limit most bytes Wrong d y.1 x)
refusal_once limit most bytes d e (inl x) (inr (inr y)) = absurd (ends_not_refused limit most bytes Long d y.1 x)
refusal_once limit most bytes d e (inr (inl x)) (inl y) = absurd (ends_not_refused limit most bytes Wrong e x.1 y)
refusal_once limit most bytes d e (inr (inr x)) (inl y) = absurd (ends_not_refused limit most bytes Long e x.1 y)
refusal_once limit most bytes d e (inr (inl x)) (inr (inl y)) = x.0 ∙ sym y.0
refusal_once limit most bytes d e (inr (inr x)) (inr (inr y)) = x.0 ∙ sym y.0
refusal_once limit most bytes d e (inr (inl x)) (inr (inr y)) = let same : Wrong ≡ Long = ends_once limit most bytes Wrong Long x.1 y.1 in cc
refusal_once limit most bytes d e (inr (inr x)) (inr (inl y)) = let same : Long ≡ Wrong = ends_once limit most bytes Long Wrong x.1 y.1 in cc

-- without any byte there is no head, and no head is too long
ends_some : (limit most : ℕ) (bytes : List ℕ) (o : Ending) → BodyEnds limit most bytes o → 0 < length bytes
ends_some limit most bytes o (q, b, r, x) = some_byte limit most bytes (Ok q) x.end x.head

refused_some : (limit most : ℕ) (bytes : List ℕ) (e : Refusal) → 0 < limit → IsRefused limit most bytes e → 0 < length bytes
refused_some limit most bytes e some (inl (inl (end, has))) = some_byte limit most bytes (Err e) end has
refused_some limit most bytes e some (inl (inr (is, long))) = omega (arith, long.0)
refused_some limit most bytes e some (inr (inl x)) = ends_some limit most bytes Wrong x.1
refused_some limit most bytes e some (inr (inr x)) = ends_some limit most bytes Long x.1

no_byte : (bytes : List ℕ) → bytes ≡ [] → 0 < length bytes → ⊥
no_byte bytes none some = absurd (omega (arith, ap (λ (l : List ℕ). length l) none))

pub one_arrival : (limit most : ℕ) (stream : List ℕ) (a b : Arrived) (body text rest more : List ℕ) → 0 < limit → IsArrival limit most stream a body rest
    → IsArrival limit most stream b text more → TellsOfStream a → TellsOfStream b → (a ≡ b) × OnRequest a ((body ≡ text) × (rest ≡ more))
one_arrival limit most stream (arrived.Request q) (arrived.Request p) body text rest more some x y tells also =
    let same = request_once limit most stream q p Whole Whole body text rest more x y in (ap arrived.Request same.0, same.2 refl)
one_arrival limit most stream (arrived.Request q) arrived.End body text rest more some x y tells also = absurd (no_byte stream y (ends_some limit most stream Whole (q, body, rest, x)))
one_arrival limit most stream (arrived.Request q) arrived.CutShort body text rest more some x y tells also =
    absurd (ends_not_lacking limit most stream Whole (λ same. cc) (q, body, rest, x) y.1)
one_arrival limit most stream (arrived.Request q) (arrived.Refused e) body text rest more some x y tells also = absurd (whole_not_refused limit most stream e (q, body, rest, x) y)
one_arrival limit most stream arrived.End (arrived.Request p) body text rest more some x y tells also = absurd (no_byte stream x (ends_some limit most stream Whole (p, text, more, y)))
one_arrival limit most stream arrived.End arrived.End body text rest more some x y tells also = (refl, tt)
one_arrival limit most stream arrived.End arrived.CutShort body text rest more some x y tells also = absurd (no_byte stream x y.0)
one_arrival limit most stream arrived.End (arrived.Refused e) body text rest more some x y tells also = absurd (no_byte stream x (refused_some limit most stream e some y))
one_arrival limit most stream arrived.CutShort (arrived.Request p) body text rest more some x y tells also =
    absurd (ends_not_lacking limit most stream Whole (λ same. cc) (p, text, more, y) x.1)
one_arrival limit most stream arrived.CutShort arrived.End body text rest more some x y tells also = absurd (no_byte stream y x.0)
one_arrival limit most stream arrived.CutShort arrived.CutShort body text rest more some x y tells also = (refl, tt)
one_arrival limit most stream arrived.CutShort (arrived.Refused e) body text rest more some x y tells also = absurd (refused_not_lacking limit most stream e y x.1)
one_arrival limit most stream (arrived.Refused d) (arrived.Request p) body text rest more some x y tells also = absurd (whole_not_refused limit most stream d (p, text, more, y) x)
one_arrival limit most stream (arrived.Refused d) arrived.End body text rest more some x y tells also = absurd (no_byte stream y (refused_some limit most stream d some x))
one_arrival limit most stream (arrived.Refused d) arrived.CutShort body text rest more some x y tells also = absurd (refused_not_lacking limit most stream d x y.1)
one_arrival limit most stream (arrived.Refused d) (arrived.Refused e) body text rest more some x y tells also = (ap arrived.Refused (refusal_once limit most stream d e x y), tt)
one_arrival limit most stream arrived.ReadFault b body text rest more some x y tells also = absurd tells
one_arrival limit most stream arrived.Memory b body text rest more some x y tells also = absurd tells
one_arrival limit most stream a arrived.ReadFault body text rest more some x y tells also = absurd also
one_arrival limit most stream a arrived.Memory body text rest more some x y tells also = absurd also
