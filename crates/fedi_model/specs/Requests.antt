-- What the head of a request asks for, and which requests are served (RFC 9112, sections 2 to 6 and
-- 9; RFC 9110, sections 5 and 7 to 9).
use Rattle.std.specs.Prelude.{◌≡◌, ℕ, ◌≤◌, ◌<◌, ◌-◌, Bool, true, not, ◌&&◌, ◌||◌, ◌==◌, nat_eq}
use Rattle.std.specs.Prelude.{nat_le, List, [], length, take, drop, map, find, count_by, codes}
use Rattle.std.specs.Prelude.{bytes_eq, Option, Some, None, option_map, ◌⊎◌, if◌then◌else◌, Result}
use Rattle.std.specs.Prelude.{Ok, Err}
use Rattle.std.specs.List.{starts_with, list_any, slice_split, position_or_len, suffix_len}
use Rattle.std.specs.Char.{to_ascii_lowercase}
use Rattle.std.specs.Str.Parse.{digits_value}
use Rattle.httparse.specs.Grammar.{RequestHead, ReadsRequest}
use Rattle.httparse.specs.Spans.{name_and_value, header_bytes}
use Rattle.httparse.specs.declared.spans.HeaderSpan.{HeaderSpan}
use Rattle.fedi_text.specs.Decimals.{is_decimal}
use Rattle.fedi_town.specs.declared.refusal.Refusal.{Refusal}
use Rattle.fedi_town.specs.declared.refusal.Refusal.TheVariants.{BadHead, HeadTooLong, NoCoding}
use Rattle.fedi_town.specs.declared.refusal.Refusal.TheVariants.{NoLength, TooLong}
use Rattle.fedi_model.specs.declared.request.Coding.{Coding}
use Rattle.fedi_model.specs.declared.request.Coding.TheVariants.{Length, Chunked}
use Rattle.fedi_model.specs.declared.request.Fields.{Fields}
use Rattle.fedi_model.specs.declared.request.Request.{Request}
use Rattle.fedi_model.specs.declared.request.TheConstants.{BODY_LIMIT}

-- the text is one whole head with at most so many fields (RFC 9112, section 2.1)
abbrev pub IsHead : ℕ → List ℕ → RequestHead → Type 0
IsHead most text h = ReadsRequest text h [] × (length h.fields ≤ most)

-- ---- the fields

-- one field: its name as it was written, and its value without the white space around it (RFC 9110,
-- sections 5.1 and 5.5)
pub record Field : Type 0 where
  pub name : List ℕ
  pub value : List ℕ

-- a field of this name and value
abbrev pub field_of : List ℕ × List ℕ → Field
field_of pair = record { name = pair.0; value = pair.1 }

-- the fields of a head, in order
abbrev pub fields_of : RequestHead → List Field
fields_of h = map field_of (map name_and_value h.fields)

-- the fields at these positions of the text
abbrev pub fields_at : List ℕ → List HeaderSpan → List Field
fields_at text spans = map field_of (map (header_bytes text) spans)

-- whether a field has this name; names are compared without case (RFC 9110, section 5.1)
abbrev pub is_named : List ℕ → Field → Bool
is_named name field = bytes_eq (map to_ascii_lowercase field.name) (map to_ascii_lowercase name)

-- how many of the fields have this name
unfoldable pub count_named : List ℕ → List Field → ℕ
count_named name fields = count_by (is_named name) fields

-- the value of the first field of this name
unfoldable pub field_value : List ℕ → List Field → Option (List ℕ)
field_value name fields = option_map (λ f. f.value) (find (is_named name) fields)

-- exactly one field has this name
abbrev pub is_once : List ℕ → List Field → Bool
is_once name fields = count_named name fields == 1

-- no field has this name
abbrev pub is_missing : List ℕ → List Field → Bool
is_missing name fields = count_named name fields == 0

-- at most one field has this name
abbrev pub is_single : List ℕ → List Field → Bool
is_single name fields = nat_le (count_named name fields) 1

-- ---- the length of the body

-- a value, if there is one, is one or more digits, so few that the number fits in 64 bits (RFC
-- 9110, section 8.6)
abbrev pub is_length_if_any : Option (List ℕ) → Bool
is_length_if_any None = true
is_length_if_any (Some value) = is_decimal value

-- the number that the digits denote
abbrev pub length_by : Option (List ℕ) → ℕ
length_by None = 0
length_by (Some value) = digits_value 10 value

-- how many bytes a body has that is not sent in chunks: as many as `Content-Length` says, and none
-- if it is missing (RFC 9112, section 6.2)
unfoldable pub body_length : List Field → ℕ
body_length fields = length_by (field_value (codes "Content-Length") fields)

-- the coding is `chunked`, ignoring case (RFC 9112, sections 6.1 and 7)
unfoldable pub is_chunked : List ℕ → Bool
is_chunked value = bytes_eq (map to_ascii_lowercase value) (codes "chunked")

-- a coding, if there is one, is `chunked`
abbrev pub is_chunked_if_any : Option (List ℕ) → Bool
is_chunked_if_any None = true
is_chunked_if_any (Some value) = is_chunked value

-- how the end of the body is found: by its chunks if the body has a transfer coding, else by its
-- length (RFC 9112, section 6.3)
unfoldable pub coding_of : List Field → Coding
coding_of fields =
    if is_missing (codes "Transfer-Encoding") fields then Length (body_length fields) else Chunked

-- the number of bytes that is announced before the body, if there is one
abbrev pub length_in : Coding → ℕ
length_in (Length n) = n
length_in Chunked = 0

-- ---- whether the connection stays open

-- a space or a tab
abbrev pub is_blank : ℕ → Bool
is_blank byte = (byte == 32) || (byte == 9)

-- the text from its first byte that is not blank
abbrev pub trim_start : List ℕ → List ℕ
trim_start text = drop (position_or_len (λ byte. not (is_blank byte)) text) text

-- the text up to its last byte that is not blank
abbrev pub trim_end : List ℕ → List ℕ
trim_end text = take (length text - suffix_len is_blank text) text

-- the element of a list is `close`, ignoring case (RFC 9110, sections 5.6.1 and 7.6.1)
unfoldable pub is_close : List ℕ → Bool
is_close element =
    bytes_eq (map to_ascii_lowercase (trim_end (trim_start element)))
    (codes "close")

-- one of the elements between the commas is `close` (RFC 9110, section 5.6.1)
unfoldable pub lists_close : List ℕ → Bool
lists_close value = list_any is_close (slice_split (λ byte. byte == 44) value)

-- a field `Connection` that lists `close`
abbrev pub is_closing : Field → Bool
is_closing field = is_named (codes "Connection") field && lists_close field.value

-- the connection closes after the reply, according to the fields (RFC 9112, section 9.6)
unfoldable pub closes : List Field → Bool
closes fields = list_any is_closing fields

-- ---- the request

-- to read (RFC 9110, section 9.3.1)
abbrev pub is_get : List ℕ → Bool
is_get method = bytes_eq method (codes "GET")

-- to read, with no body in the reply (RFC 9110, section 9.3.2)
abbrev pub is_head : List ℕ → Bool
is_head method = bytes_eq method (codes "HEAD")

-- to read, with or without the body
abbrev pub is_reading : List ℕ → Bool
is_reading method = is_get method || is_head method

-- to post (RFC 9110, section 9.3.3)
abbrev pub is_post : List ℕ → Bool
is_post method = bytes_eq method (codes "POST")

-- the version is HTTP/1.1, not HTTP/1.0 (RFC 9112, section 2.3)
abbrev pub is_latest : ℕ → Bool
is_latest minor = minor == 1

-- the values of the fields that are used after the head was read
abbrev pub known_fields : List Field → Fields
known_fields fields = record {
  authorization = field_value (codes "Authorization") fields;
  peer_host = field_value (codes "Peer-Host") fields;
  peer_mac = field_value (codes "Peer-Mac") fields;
  content_type = field_value (codes "Content-Type") fields;
  idempotency_key = field_value (codes "Idempotency-Key") fields;
}

-- a request with these parts; the connection stays open only after HTTP/1.1 (RFC 9112, section 9.3)
abbrev pub request_with : List ℕ → List ℕ → ℕ → List Field → Request
request_with method target minor fields = record {
  method = method;
  target = target;
  fields = known_fields fields;
  coding = coding_of fields;
  keep_alive = is_latest minor && not (closes fields);
  head_only = is_head method;
}

-- the request that a head denotes
abbrev pub request_of : RequestHead → Request
request_of h = request_with h.method h.target h.minor (fields_of h)

-- ---- which heads are bad

-- the origin form, which begins with a slash (RFC 9112, section 3.2.1)
abbrev pub is_served_target : List ℕ → Bool
is_served_target target = starts_with nat_eq target (codes "/")

-- each of the fields that say who asks occurs at most once (RFC 9110, section 5.3)
unfoldable pub has_single_credentials : List Field → Bool
has_single_credentials fields =
    is_single (codes "Authorization") fields
    && is_single (codes "Peer-Host") fields
    && is_single (codes "Peer-Mac") fields

-- and so does each of those that describe the body
unfoldable pub has_single_content : List Field → Bool
has_single_content fields =
    is_single (codes "Content-Length") fields
    && is_single (codes "Transfer-Encoding") fields
    && is_single (codes "Content-Type") fields

-- no field is repeated that may occur only once
unfoldable pub has_no_repeats : List Field → Bool
has_no_repeats fields =
    has_single_credentials fields && has_single_content fields
    && is_single (codes "Idempotency-Key") fields

-- `Host` occurs exactly once, unless the version is HTTP/1.0 (RFC 9112, section 3.2)
abbrev pub has_host : ℕ → List Field → Bool
has_host minor fields = not (is_latest minor) || is_once (codes "Host") fields

-- the length of the body is not given in both ways (RFC 9112, section 6.3)
unfoldable pub has_one_measure : List Field → Bool
has_one_measure fields =
    is_missing (codes "Content-Length") fields || is_missing (codes "Transfer-Encoding") fields

-- a `Content-Length`, if there is one, is a number (RFC 9112, section 6.3)
unfoldable pub has_plain_length : List Field → Bool
has_plain_length fields = is_length_if_any (field_value (codes "Content-Length") fields)

-- the fields are those of a good head of this version
unfoldable pub has_served_fields : ℕ → List Field → Bool
has_served_fields minor fields =
    has_host minor fields && has_no_repeats fields && has_one_measure fields
    && has_plain_length fields

-- ---- why a head is refused

-- the body has no transfer coding other than chunks
unfoldable pub has_served_coding : List Field → Bool
has_served_coding fields = is_chunked_if_any (field_value (codes "Transfer-Encoding") fields)

-- nothing says where the body ends
abbrev pub has_no_measure : List Field → Bool
has_no_measure fields =
    is_missing (codes "Content-Length") fields && is_missing (codes "Transfer-Encoding") fields

-- why no body is read after the good fields of a request with this method: its coding (RFC 9112,
-- section 6.1), a missing length (RFC 9110, section 15.5.12), or the length (RFC 9110, section
-- 15.5.14)
abbrev pub body_refusal : List ℕ → List Field → Option Refusal
body_refusal method fields =
    if not (has_served_coding fields) then Some NoCoding
    else (if is_post method && has_no_measure fields then Some NoLength
    else (if nat_le (body_length fields) BODY_LIMIT then None else Some TooLong))

-- why a request with this method and version is refused because of its fields
abbrev pub fields_refusal : List ℕ → ℕ → List Field → Option Refusal
fields_refusal method minor fields =
    if has_served_fields minor fields then body_refusal method fields else Some BadHead

-- why a request with these parts is refused
abbrev pub refusal_with : List ℕ → List ℕ → ℕ → List Field → Option Refusal
refusal_with method target minor fields =
    if is_served_target target then fields_refusal method minor fields else Some BadHead

-- why a head is refused, if it is
abbrev pub head_refusal : RequestHead → Option Refusal
head_refusal h = refusal_with h.method h.target h.minor (fields_of h)

-- how many lines there are between the first line of a head and the empty line that ends it; a line
-- ends in LF
unfoldable pub line_count : List ℕ → ℕ
line_count text = count_by (λ byte. byte == 10) text - 2

-- what a text with few enough lines is read as: the request of its head, or why that head is
-- refused; a text that is not a head is bad
abbrev pub ReadsHead : ℕ → List ℕ → Result Request Refusal → Type 0
ReadsHead most text (Ok q) =
    (h : RequestHead) × IsHead most text h × (head_refusal h ≡ None) × (q ≡ request_of h)
ReadsHead most text (Err e) =
    ((h : RequestHead) × IsHead most text h × (head_refusal h ≡ Some e))
    ⊎ ((e ≡ BadHead) × ((h : RequestHead) → ¬ (IsHead most text h)))

-- what a text is read as; with more than `most` lines it is too long, whatever they are (RFC 6585,
-- section 5)
abbrev pub ReadsAs : ℕ → List ℕ → Result Request Refusal → Type 0
ReadsAs most text outcome =
    ((line_count text ≤ most) × ReadsHead most text outcome)
    ⊎ ((most < line_count text) × (outcome ≡ Err HeadTooLong))

-- a text is read in at most one way
abbrev pub IsReadOnce : ℕ → List ℕ → Type 0
IsReadOnce most text =
    (a b : Result Request Refusal) → ReadsAs most text a → ReadsAs most text b → a ≡ b
