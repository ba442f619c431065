-- What one pass over the fields of a head finds (RFC 9110, section 5).
use Rattle.std.specs.Prelude.{◌≡◌, ℕ, ◌<◌, ◌≤◌, ◌⊎◌, List, Bool, true, false, not, ◌&&◌, ◌||◌}
use Rattle.std.specs.Prelude.{codes, is_some, option_copied}
use Rattle.std.specs.Str.Parse.{digits_value}
use Rattle.fedi_town.specs.declared.refusal.Refusal.{Refusal}
use Rattle.fedi_town.specs.declared.refusal.Refusal.TheVariants.{BadHead, TooLong}
use Rattle.fedi_model.specs.declared.request.Coding.{Coding}
use Rattle.fedi_model.specs.declared.request.Coding.TheVariants.{Length}
use Rattle.fedi_model.specs.declared.request.TheConstants.{BODY_LIMIT}
use Rattle.fedi_http.specs.declared.fields.KnownFields.{KnownFields}
use Rattle.fedi_http.specs.declared.fields.Slot.{Slot}
use Rattle.fedi_text.specs.Decimals.{is_decimal}
use Rattle.fedi_model.specs.Requests.{Field, field_value, is_latest, is_single, closes as closes_by}

-- what the fields with this name say: the value of the first, and whether there is another
pub record IsSlot (name : List ℕ) (fields : List Field) (slot : Slot) : Type 0 where
  pub value : option_copied slot.value ≡ field_value name fields
  pub repeated : slot.is_repeated ≡ not (is_single name fields)

-- what these fields say
pub record AreKnown (fields : List Field) (known : KnownFields) : Type 0 where
  pub host : IsSlot (codes "Host") fields known.host
  pub content_length : IsSlot (codes "Content-Length") fields known.content_length
  pub transfer_encoding : IsSlot (codes "Transfer-Encoding") fields known.transfer_encoding
  pub content_type : IsSlot (codes "Content-Type") fields known.content_type
  pub authorization : IsSlot (codes "Authorization") fields known.authorization
  pub peer_host : IsSlot (codes "Peer-Host") fields known.peer_host
  pub peer_mac : IsSlot (codes "Peer-Mac") fields known.peer_mac
  pub idempotency_key : IsSlot (codes "Idempotency-Key") fields known.idempotency_key
  pub closing : known.closes ≡ closes_by fields

-- no field that may occur only once is repeated
abbrev pub has_no_repeats : KnownFields → Bool
has_no_repeats known =
    not (known.authorization.is_repeated
    || known.peer_host.is_repeated
    || known.peer_mac.is_repeated
    || known.content_length.is_repeated
    || known.transfer_encoding.is_repeated
    || known.content_type.is_repeated
    || known.idempotency_key.is_repeated)

-- `Host` occurs exactly once, if this version requires it
abbrev pub has_host : ℕ → KnownFields → Bool
has_host minor known =
    not (is_latest minor) || (is_some known.host.value && not known.host.is_repeated)

-- the value of a `Content-Length` is a number that is not too large
abbrev pub IsLength : List ℕ → Coding → Type 0
IsLength value coding =
    (is_decimal value ≡ true) × (digits_value 10 value ≤ BODY_LIMIT)
    × (coding ≡ Length (digits_value 10 value))

-- the value of a `Content-Length` is refused: it is not a number, or the number is too large
abbrev pub IsNoLength : List ℕ → Refusal → Type 0
IsNoLength value refusal =
    ((is_decimal value ≡ false) × (refusal ≡ BadHead))
    ⊎ ((is_decimal value ≡ true) × (BODY_LIMIT < digits_value 10 value) × (refusal ≡ TooLong))
