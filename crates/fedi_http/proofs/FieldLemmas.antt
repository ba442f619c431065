-- Lemmas on what is found in the fields of a head.
use Rattle.std.proofs.Common.{◌≡◌, ℕ, ◌+◌, ◌≤◌, Bool, true, false, cond, not, List, [], ◌∷◌, ◌++◌, Option, None, Some, option_map, option_copied, find, Result, Ok, Err, IfOk, MatchResult, refl, sym, subst, ap, ◌∙◌, arith, Bor, eqb, leb, eq-eqb, add-zero, zero-add, inl, inr, ◌<◌}
use Rattle.std.specs.Prelude.{is_some, nat_le, codes, if◌then◌else◌, ◌&&◌, ◌||◌}
use Rattle.std.specs.Str.Parse.{digits_value}
use Rattle.std.specs.Option.{option_or}
use Rattle.std.proofs.lemmas.List.Folds.{find-append, list_any-append}
use Rattle.std.proofs.lemmas.Bool.Decides.{nat_tests}
use Rattle.std.proofs.lemmas.List.Sums.{sum_by-cons, sum_by_push}
use Rattle.std.proofs.lemmas.Bool.{cases_eq, eqb-true, le-leb, leb-true, false_from_ne_true, ne_eqb}
use Rattle.fedi_town.specs.declared.refusal.Refusal.{Refusal}
use Rattle.fedi_town.specs.declared.refusal.Refusal.TheVariants.{BadHead, NoCoding, NoLength, TooLong}
use Rattle.fedi_town.proofs.Texts.{or_no, and_none}
use Rattle.fedi_model.specs.declared.request.Coding.{Coding}
use Rattle.fedi_model.specs.declared.request.Coding.TheVariants.{Length, Chunked}
use Rattle.fedi_model.specs.declared.request.TheConstants.{BODY_LIMIT}
use Rattle.fedi_model.specs.Requests.{Field, is_named, is_missing, is_once, is_single, count_named, field_value, closes, is_closing, is_chunked, is_chunked_if_any, is_latest, is_length_if_any, length_by, is_post, has_host as has_host_by, has_no_repeats as has_no_repeats_by, has_single_credentials, has_single_content, has_served_coding, has_served_fields, has_one_measure, has_plain_length, body_length, coding_of, fields_refusal, length_in}
use Rattle.fedi_http.specs.Fields.{AreKnown, IsLength, IsNoLength, IsSlot, has_host, has_no_repeats}
use Rattle.fedi_http.specs.declared.fields.KnownFields.{KnownFields}
use Rattle.fedi_http.specs.declared.fields.Slot.{Slot}

-- ---- the fields of a name, and one field more

count-push : (name : List ℕ) (fields : List Field) (f : Field) → count_named name (fields ++ f ∷ []) ≡ count_named name fields + cond (is_named name f) 1 0
unfolding count_named
count-push name fields f = sum_by_push (λ x. cond (is_named name x) 1 0) fields f

value-of-found : (found : Option Field) (b : Bool) (f : Field)
    → option_map (λ (x : Field). x.value) (option_or found (cond b (Some f) None)) ≡ option_or (option_map (λ (x : Field). x.value) found) (cond b (Some f.value) None)
value-of-found None true f = refl
value-of-found None false f = refl
value-of-found (Some g) b f = refl

value-push : (name : List ℕ) (fields : List Field) (f : Field)
    → field_value name (fields ++ f ∷ []) ≡ option_or (field_value name fields) (cond (is_named name f) (Some f.value) None)
unfolding field_value
value-push name fields f =
    ap (option_map (λ (x : Field). x.value)) (find-append (is_named name) fields (f ∷ [])) ∙ value-of-found (find (is_named name) fields) (is_named name f) f

pub gt_leb : (a b : ℕ) → b < a → leb a b ≡ false
gt_leb a b h = false_from_ne_true (leb a b) (λ e. let low : a ≤ b = leb-true a b e in absurd (omega arith))

-- ---- a name is missing if it has no value

count-cons : (name : List ℕ) (f : Field) (fields : List Field) → count_named name (f ∷ fields) ≡ cond (is_named name f) 1 0 + count_named name fields
unfolding count_named
count-cons name f fields = sum_by-cons (λ x. cond (is_named name x) 1 0) f fields

value-cons : (name : List ℕ) (f : Field) (fields : List Field) → field_value name (f ∷ fields) ≡ cond (is_named name f) (Some f.value) (field_value name fields)
unfolding field_value
value-cons name f fields = elim (is_named name f) as (λ b. option_map (λ (x : Field). x.value) (cond b (Some f) (find (is_named name) fields)) ≡ cond b (Some f.value) (option_map (λ (x : Field). x.value) (find (is_named name) fields))) [ true ↦ refl | false ↦ refl ]

missing-step : (b : Bool) (v : List ℕ) (n : ℕ) (o : Option (List ℕ)) → eqb n 0 ≡ not (is_some o) → eqb (cond b 1 0 + n) 0 ≡ not (is_some (cond b (Some v) o))
missing-step true v n o h = ne_eqb (1 + n) 0 (λ e. omega arith)
missing-step false v n o h = ap (λ k. eqb k 0) (zero-add n) ∙ h

pub missing-is : (name : List ℕ) (fields : List Field) → is_missing name fields ≡ not (is_some (field_value name fields))
missing-is name [] = unfold count_named in unfold field_value in refl
missing-is name (f ∷ fields) =
    ap (λ n. eqb n 0) (count-cons name f fields)
    ∙ missing-step (is_named name f) f.value (count_named name fields) (field_value name fields) (missing-is name fields)
    ∙ ap (λ o. not (is_some o)) (sym (value-cons name f fields))

no_value : (name : List ℕ) (fields : List Field) → field_value name fields ≡ None → count_named name fields ≡ 0
no_value name fields none = eqb-true (count_named name fields) 0 (missing-is name fields ∙ ap (λ o. not (is_some o)) none)

some_value : (name : List ℕ) (fields : List Field) (v : List ℕ) → field_value name fields ≡ Some v → 1 ≤ count_named name fields
some_value name fields v some =
    elim (cases_eq (count_named name fields) 0) [
      | inl none ↦ let no : true ≡ false = sym (eq-eqb (count_named name fields) 0 none) ∙ missing-is name fields ∙ ap (λ o. not (is_some o)) some in cc
      | inr other ↦ omega arith
    ]

-- ---- what one field more says

pub slot-nil : (name : List ℕ) → IsSlot name [] (record { value = None; is_repeated = false })
unfolding count_named field_value
slot-nil name = record { value = refl; repeated = refl }

or-none : (o : Option (List ℕ)) → option_or o None ≡ o
or-none None = refl
or-none (Some v) = refl

pub slot-other : (name : List ℕ) (fields : List Field) (f : Field) (slot : Slot) → is_named name f ≡ false → IsSlot name fields slot → IsSlot name (fields ++ f ∷ []) slot
slot-other name fields f slot other is =
    let value : field_value name (fields ++ f ∷ []) ≡ field_value name fields =
    value-push name fields f ∙ ap (λ b. option_or (field_value name fields) (cond b (Some f.value) None)) other ∙ or-none (field_value name fields) in
    let count : count_named name (fields ++ f ∷ []) ≡ count_named name fields =
    count-push name fields f ∙ ap (λ b. count_named name fields + cond b 1 0) other ∙ add-zero (count_named name fields) in
    record { value = is.value ∙ sym value; repeated = is.repeated ∙ ap (λ n. not (leb n 1)) (sym count) }

pub slot-first : (name : List ℕ) (fields : List Field) (f : Field) (slot : Slot) (v : Bor (List ℕ)) → is_named name f ≡ true → slot.value ≡ None → v.now ≡ f.value
    → IsSlot name fields slot → IsSlot name (fields ++ f ∷ []) (record { value = Some v; is_repeated = false })
slot-first name fields f slot v named none here is =
    let missing : field_value name fields ≡ None = sym is.value ∙ ap option_copied none in
    let value : field_value name (fields ++ f ∷ []) ≡ Some f.value =
    value-push name fields f ∙ ap (λ b. option_or (field_value name fields) (cond b (Some f.value) None)) named
    ∙ ap (λ o. option_or o (Some f.value)) missing in
    let count : count_named name (fields ++ f ∷ []) ≡ 1 =
    count-push name fields f ∙ ap (λ b. count_named name fields + cond b 1 0) named ∙ ap (λ n. n + 1) (no_value name fields missing) in
    record { value = ap Some here ∙ sym value; repeated = ap (λ n. not (leb n 1)) (sym count) }

pub slot-again : (name : List ℕ) (fields : List Field) (f : Field) (slot : Slot) (v : Bor (List ℕ)) → is_named name f ≡ true → slot.value ≡ Some v
    → IsSlot name fields slot → IsSlot name (fields ++ f ∷ []) (record { value = Some v; is_repeated = true })
slot-again name fields f slot v named found is =
    let some : field_value name fields ≡ Some v.now = sym is.value ∙ ap option_copied found in
    let value : field_value name (fields ++ f ∷ []) ≡ Some v.now =
    value-push name fields f ∙ ap (λ o. option_or o (cond (is_named name f) (Some f.value) None)) some in
    let one : 1 ≤ count_named name fields = some_value name fields v.now some in
    let count : count_named name (fields ++ f ∷ []) ≡ count_named name fields + 1 =
    count-push name fields f ∙ ap (λ b. count_named name fields + cond b 1 0) named in
    let many : leb (count_named name (fields ++ f ∷ [])) 1 ≡ false = gt_leb (count_named name (fields ++ f ∷ [])) 1 (omega arith) in
    record { value = sym value; repeated = ap not (sym many) }

pub ruleset slots = (slot-other, slot-first, slot-again)

-- ---- whether one of the fields closes

closes-push : (fields : List Field) (f : Field) → closes (fields ++ f ∷ []) ≡ (closes fields || is_closing f)
unfolding closes
closes-push fields f = list_any-append is_closing fields (f ∷ []) ∙ ap (λ b. closes fields || b) (or_no (is_closing f))

pub closing-step : (fields : List Field) (f : Field) (before after : Bool) → before ≡ closes fields → after ≡ (before || is_closing f) → after ≡ closes (fields ++ f ∷ [])
closing-step fields f before after known now = now ∙ ap (λ b. b || is_closing f) known ∙ sym (closes-push fields f)

-- ---- why a request is refused

one-is : (n : ℕ) → eqb n 1 ≡ (not (eqb n 0) && leb n 1)
one-is n = grind (arith, nat_tests)

not-not : (b : Bool) → not (not b) ≡ b
not-not true = refl
not-not false = refl

single-is : (name : List ℕ) (fields : List Field) (slot : Slot) → IsSlot name fields slot → is_single name fields ≡ not slot.is_repeated
single-is name fields slot is = sym (ap not is.repeated ∙ not-not (is_single name fields))

some-copied : (o : Option (Bor (List ℕ))) → is_some (option_copied o) ≡ is_some o
some-copied None = refl
some-copied (Some v) = refl

missing-slot : (name : List ℕ) (fields : List Field) (slot : Slot) → IsSlot name fields slot → is_missing name fields ≡ not (is_some slot.value)
missing-slot name fields slot is = missing-is name fields ∙ ap (λ o. not (is_some o)) (sym is.value) ∙ ap not (some-copied slot.value)

once-slot : (name : List ℕ) (fields : List Field) (slot : Slot) → IsSlot name fields slot → is_once name fields ≡ (is_some slot.value && not slot.is_repeated)
once-slot name fields slot is =
    one-is (count_named name fields)
    ∙ ap (λ b. not b && is_single name fields) (missing-slot name fields slot is)
    ∙ ap (λ b. b && is_single name fields) (not-not (is_some slot.value))
    ∙ ap (λ b. is_some slot.value && b) (single-is name fields slot is)

-- all of these at once
spread : (b c d e f g i : Bool)
    → (((not b && not c) && not d) && ((not e && not f) && not g) && not i) ≡ not ((((((b || c) || d) || e) || f) || g) || i)
spread true c d e f g i = refl
spread false true d e f g i = refl
spread false false true e f g i = refl
spread false false false true f g i = refl
spread false false false false true g i = refl
spread false false false false false true i = refl
spread false false false false false false true = refl
spread false false false false false false false = refl

repeats-is : (fields : List Field) (k : KnownFields) → AreKnown fields k → has_no_repeats_by fields ≡ has_no_repeats k
unfolding has_no_repeats_by has_single_credentials has_single_content
repeats-is fields k known =
    rw (
      single-is (codes "Authorization") fields k.authorization known.authorization,
      single-is (codes "Peer-Host") fields k.peer_host known.peer_host,
      single-is (codes "Peer-Mac") fields k.peer_mac known.peer_mac,
      single-is (codes "Content-Length") fields k.content_length known.content_length,
      single-is (codes "Transfer-Encoding") fields k.transfer_encoding known.transfer_encoding,
      single-is (codes "Content-Type") fields k.content_type known.content_type,
      single-is (codes "Idempotency-Key") fields k.idempotency_key known.idempotency_key,
    )
    (spread k.authorization.is_repeated k.peer_host.is_repeated k.peer_mac.is_repeated
    k.content_length.is_repeated k.transfer_encoding.is_repeated k.content_type.is_repeated k.idempotency_key.is_repeated)

host-is : (minor : ℕ) (fields : List Field) (k : KnownFields) → AreKnown fields k → has_host_by minor fields ≡ has_host minor k
host-is minor fields k known = ap (λ b. not (is_latest minor) || b) (once-slot (codes "Host") fields k.host known.host)

-- the first reason to refuse a request, by what was found in its fields
abbrev refusal_by : List ℕ → ℕ → KnownFields → Option (List ℕ) → Option (List ℕ) → Option Refusal
refusal_by method minor k coding length =
    if ((has_host minor k && has_no_repeats k) && (not (is_some length) || not (is_some coding))) && is_length_if_any length
    then (if not (is_chunked_if_any coding) then Some NoCoding
    else (if is_post method && (not (is_some length) && not (is_some coding)) then Some NoLength
    else (if nat_le (length_by length) BODY_LIMIT then None else Some TooLong)))
    else Some BadHead

refusal-is : (method : List ℕ) (minor : ℕ) (fields : List Field) (k : KnownFields) → AreKnown fields k
    → fields_refusal method minor fields ≡ refusal_by method minor k (option_copied k.transfer_encoding.value) (option_copied k.content_length.value)
unfolding has_served_fields has_one_measure has_plain_length body_length has_served_coding
refusal-is method minor fields k known =
    rw (
      host-is minor fields k known,
      repeats-is fields k known,
      missing-is (codes "Content-Length") fields,
      missing-is (codes "Transfer-Encoding") fields,
      ← known.content_length.value,
      ← known.transfer_encoding.value,
    )

coding-is : (fields : List Field) (k : KnownFields) → AreKnown fields k
    → coding_of fields ≡ (if not (is_some (option_copied k.transfer_encoding.value)) then Length (length_by (option_copied k.content_length.value)) else Chunked)
unfolding coding_of body_length
coding-is fields k known =
    rw (missing-is (codes "Transfer-Encoding") fields, ← known.content_length.value, ← known.transfer_encoding.value)

pub bad-form : (method : List ℕ) (minor : ℕ) (fields : List Field) (k : KnownFields) → (has_host minor k && has_no_repeats k) ≡ false → AreKnown fields k
    → fields_refusal method minor fields ≡ Some BadHead
bad-form method minor fields k bad known = rw (refusal-is method minor fields k known, bad)

pub no-host : (minor : ℕ) (k : KnownFields) → has_host minor k ≡ false → (has_host minor k && has_no_repeats k) ≡ false
no-host minor k none = ap (λ b. b && has_no_repeats k) none

pub repeats : (minor : ℕ) (k : KnownFields) → has_no_repeats k ≡ false → (has_host minor k && has_no_repeats k) ≡ false
repeats minor k bad = ap (λ b. has_host minor k && b) bad ∙ and_none (has_host minor k)

-- the fields occur as they may, and these values determine where the body ends
pub record IsMeasured (minor : ℕ) (fields : List Field) (k : KnownFields) (coding length : Option (Bor (List ℕ))) : Type 0 where
  pub good : (has_host minor k && has_no_repeats k) ≡ true
  pub coding_is : k.transfer_encoding.value ≡ coding
  pub length_is : k.content_length.value ≡ length
  pub known : AreKnown fields k

measured : (method : List ℕ) (minor : ℕ) (fields : List Field) (k : KnownFields) (coding length : Option (Bor (List ℕ))) → IsMeasured minor fields k coding length
    → fields_refusal method minor fields ≡ refusal_by method minor k (option_copied coding) (option_copied length)
measured method minor fields k coding length m =
    refusal-is method minor fields k m.known
    ∙ ap (λ (v : Option (Bor (List ℕ))). refusal_by method minor k (option_copied v) (option_copied k.content_length.value)) m.coding_is
    ∙ ap (λ (v : Option (Bor (List ℕ))). refusal_by method minor k (option_copied coding) (option_copied v)) m.length_is

coded : (minor : ℕ) (fields : List Field) (k : KnownFields) (coding length : Option (Bor (List ℕ))) → IsMeasured minor fields k coding length
    → coding_of fields ≡ (if not (is_some (option_copied coding)) then Length (length_by (option_copied length)) else Chunked)
coded minor fields k coding length m =
    coding-is fields k m.known
    ∙ ap (λ (v : Option (Bor (List ℕ))). if not (is_some (option_copied v)) then Length (length_by (option_copied k.content_length.value)) else Chunked) m.coding_is
    ∙ ap (λ (v : Option (Bor (List ℕ))). if not (is_some (option_copied coding)) then Length (length_by (option_copied v)) else Chunked) m.length_is

-- what was found out about the fields
pub is_measured : (minor : ℕ) (fields : List Field) (k : KnownFields) (coding length : Option (Bor (List ℕ))) → true ≡ has_host minor k → true ≡ has_no_repeats k
    → k.transfer_encoding.value ≡ coding → k.content_length.value ≡ length → AreKnown fields k → IsMeasured minor fields k coding length
is_measured minor fields k coding length host single c l known = record {
  good = sym (ap (λ b. b && has_no_repeats k) host) ∙ sym single;
  coding_is = c;
  length_is = l;
  known = known;
}

pub both-measures : (method : List ℕ) (minor : ℕ) (fields : List Field) (k : KnownFields) (c l : Bor (List ℕ)) → IsMeasured minor fields k (Some c) (Some l)
    → fields_refusal method minor fields ≡ Some BadHead
both-measures method minor fields k c l m = measured method minor fields k (Some c) (Some l) m ∙ rw m.good refl

pub in-chunks : (method : List ℕ) (minor : ℕ) (fields : List Field) (k : KnownFields) (c : Bor (List ℕ)) → IsMeasured minor fields k (Some c) None → is_chunked c.now ≡ true
    → (fields_refusal method minor fields ≡ None) × (Chunked ≡ coding_of fields)
in-chunks method minor fields k c m is =
    (measured method minor fields k (Some c) None m ∙ rw (m.good, is, and_none (is_post method)) refl, sym (coded minor fields k (Some c) None m))

pub no-coding : (method : List ℕ) (minor : ℕ) (fields : List Field) (k : KnownFields) (c : Bor (List ℕ)) → IsMeasured minor fields k (Some c) None → is_chunked c.now ≡ false
    → fields_refusal method minor fields ≡ Some NoCoding
no-coding method minor fields k c m other = measured method minor fields k (Some c) None m ∙ rw (m.good, other) refl

by-length : (method : List ℕ) (minor : ℕ) (fields : List Field) (k : KnownFields) (l : Bor (List ℕ)) (coding : Coding) → IsMeasured minor fields k None (Some l)
    → IsLength l.now coding → (fields_refusal method minor fields ≡ None) × (coding ≡ coding_of fields)
by-length method minor fields k l coding m is = (
  measured method minor fields k None (Some l) m ∙ rw (m.good, is.0, and_none (is_post method), le-leb (digits_value 10 l.now) BODY_LIMIT is.1) refl,
  is.2 ∙ sym (coded minor fields k None (Some l) m),
)

bad-length : (method : List ℕ) (minor : ℕ) (fields : List Field) (k : KnownFields) (l : Bor (List ℕ)) (e : Refusal) → IsMeasured minor fields k None (Some l)
    → IsNoLength l.now e → fields_refusal method minor fields ≡ Some e
bad-length method minor fields k l e m (inl bad) = measured method minor fields k None (Some l) m ∙ rw (m.good, bad.0, bad.1) refl
bad-length method minor fields k l e m (inr long) =
    measured method minor fields k None (Some l) m
    ∙ rw (m.good, long.0, and_none (is_post method), gt_leb (digits_value 10 l.now) BODY_LIMIT long.1, long.2) refl

-- whether the length is valid or not
pub length_told : (method : List ℕ) (minor : ℕ) (fields : List Field) (k : KnownFields) (l : Bor (List ℕ)) (r : Result Coding Refusal) → IsMeasured minor fields k None (Some l)
    → MatchResult r (λ coding. IsLength l.now coding) (λ refusal. IsNoLength l.now refusal)
    → MatchResult r (λ coding. (fields_refusal method minor fields ≡ None) × (coding ≡ coding_of fields)) (λ refusal. fields_refusal method minor fields ≡ Some refusal)
length_told method minor fields k l (Ok coding) m is = by-length method minor fields k l coding m is
length_told method minor fields k l (Err e) m is = bad-length method minor fields k l e m is

pub short_length : (value : List ℕ) (r : Result Coding Refusal) → MatchResult r (λ coding. IsLength value coding) (λ refusal. IsNoLength value refusal)
    → IfOk r (λ coding. length_in coding ≤ BODY_LIMIT)
short_length value (Ok coding) is = subst (λ (c : Coding). length_in c ≤ BODY_LIMIT) (sym is.2) is.1
short_length value (Err e) is = tt

pub no-length : (method : List ℕ) (minor : ℕ) (fields : List Field) (k : KnownFields) → IsMeasured minor fields k None None → is_post method ≡ true
    → fields_refusal method minor fields ≡ Some NoLength
no-length method minor fields k m post = measured method minor fields k None None m ∙ rw (m.good, post) refl

pub no-body : (method : List ℕ) (minor : ℕ) (fields : List Field) (k : KnownFields) → IsMeasured minor fields k None None → is_post method ≡ false
    → (fields_refusal method minor fields ≡ None) × (Length 0 ≡ coding_of fields)
no-body method minor fields k m other =
    (measured method minor fields k None None m ∙ rw (m.good, other) refl, sym (coded minor fields k None None m))
