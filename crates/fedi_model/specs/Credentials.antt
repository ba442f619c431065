-- What the fields of a request show about who makes it (RFC 6750, section 2.1; RFC 9110, section
-- 11.6.2).
use Rattle.std.specs.Prelude.{ℕ, Bool, ◌&&◌, ◌||◌, nat_le, List, take, drop, map, codes, bytes_eq}
use Rattle.std.specs.Prelude.{Option, Some, None, option_map, if◌then◌else◌}
use Rattle.std.specs.List.{list_all}
use Rattle.std.specs.Str.{is_utf8}
use Rattle.std.specs.Char.{to_ascii_lowercase}
use Rattle.fedi_mac.specs.Keys.{key_of}
use Rattle.fedi_model.specs.declared.credentials.Credentials.{Credentials}
use Rattle.fedi_model.specs.declared.credentials.Credentials.TheVariants.{Nothing as NoneShown}
use Rattle.fedi_model.specs.declared.credentials.Credentials.TheVariants.{Bearer as BearerShown}
use Rattle.fedi_model.specs.declared.credentials.Credentials.TheVariants.{Mac as MacShown}
use Rattle.fedi_model.specs.declared.credentials.Signed.{Signed}
use Rattle.fedi_model.specs.declared.request.Request.{Request}

-- the key after `Bearer`, ignoring case, and one space (RFC 6750, section 2.1; RFC 9110, section
-- 11.1)
abbrev pub bearer_key : List ℕ → Option (List ℕ)
bearer_key value =
    if bytes_eq (map to_ascii_lowercase (take 7 value)) (codes "bearer ")
    then key_of (drop 7 value) else None

-- `0` to `9` or `a` to `f`
abbrev pub is_lower_digit : ℕ → Bool
is_lower_digit b = (nat_le 48 b && nat_le b 57) || (nat_le 97 b && nat_le b 102)

-- each byte is a hexadecimal digit, and none is in upper case
unfoldable pub is_lower_hex : List ℕ → Bool
is_lower_hex text = list_all is_lower_digit text

-- the 32 bytes of an authentication code, written in lower-case digits
abbrev pub code_of : List ℕ → Option (List ℕ)
code_of text = if is_lower_hex text then key_of text else None

-- what another server signed
pub record Signature : Type 0 where
  pub host : List ℕ
  pub mac : List ℕ
  pub method : List ℕ
  pub target : List ℕ
  pub body : List ℕ

-- the request with this body, as this host signed it with this code
abbrev pub signed_by : Request → List ℕ → List ℕ → List ℕ → Signature
signed_by q body host mac =
    record { host = host; mac = mac; method = q.method; target = q.target; body = body }

-- both fields are present, the host is a text, and the code is valid
abbrev pub signature_of : Request → List ℕ → Option (List ℕ) → Option (List ℕ) → Option Signature
signature_of q body (Some host) (Some code) =
    if is_utf8 host then option_map (signed_by q body host) (code_of code) else None
signature_of q body (Some host) None = None
signature_of q body None code = None

-- what a request shows about who makes it
pub data Shows : Type 0 where
  Nothing : Shows
  Bearer : Option (List ℕ) → Shows
  Mac : Option Signature → Shows

-- what the values of `Authorization`, `Peer-Host` and `Peer-Mac` show
abbrev pub credentials_by : Request → List ℕ → Option (List ℕ) → Option (List ℕ)
    → Option (List ℕ) → Shows
credentials_by q body (Some value) host code = Bearer (bearer_key value)
credentials_by q body None None None = Nothing
credentials_by q body None None (Some code) = Mac (signature_of q body None (Some code))
credentials_by q body None (Some host) code = Mac (signature_of q body (Some host) code)

-- what a request with this body shows about who makes it
abbrev pub credentials_of : Request → List ℕ → Shows
credentials_of q body =
    credentials_by q body q.fields.authorization q.fields.peer_host q.fields.peer_mac

-- what another server signed, without the references
abbrev pub signature_in : Signed → Signature
signature_in s = record {
  host = s.host.now;
  mac = s.mac;
  method = s.method.now;
  target = s.target.now;
  body = s.body.now;
}

-- the credentials, without the references
abbrev pub shown_by : Credentials → Shows
shown_by NoneShown = Nothing
shown_by (BearerShown key) = Bearer key
shown_by (MacShown signed) = Mac (option_map signature_in signed)
