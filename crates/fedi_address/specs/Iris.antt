-- What an IRI is here: the text that the URL Standard's serializer writes for a web address (URL
-- Standard, 4.5).
use Rattle.std.specs.Prelude.{◌≡◌, ℕ, ◌≤◌, Bool, true, false, ◌||◌, ◌==◌, List, length, codes}
use Rattle.std.specs.Prelude.{bytes_eq, Option, Some, None, option_map, if◌then◌else◌}
use Rattle.std.specs.Result.{result_ok}
use Rattle.std.specs.List.{before_first, after_first}
use Rattle.fedi_address.specs.Pieces.{after_any, from_first}
use Rattle.url.specs.declared.error.ParseError.{ParseError}
use Rattle.url.specs.declared.error.ParseError.TheVariants.{OutOfMemory, Overflow}
use Rattle.url.specs.Parser.{parse_url}
use Rattle.url.specs.Parts.{Parts, serialize, text_between, IsValid}
use Rattle.url.specs.declared.slicing.Position.TheVariants.{BeforeHost, AfterPort, BeforePath}
use Rattle.url.specs.declared.slicing.Position.TheVariants.{AfterQuery}

-- the scheme is `http` or `https` (RFC 9110, 4.2)
abbrev pub is_web : Parts → Bool
is_web url = bytes_eq url.scheme (codes "https") || bytes_eq url.scheme (codes "http")

-- the URL, if it is a web address
abbrev pub web_only : Option Parts → Option Parts
web_only (Some url) = if is_web url then Some url else None
web_only None = None

-- the web address that the text parses to, with no base (URL Standard, 4.4)
unfoldable pub web_url : List ℕ → Option Parts
web_url text = web_only (result_ok (parse_url None text))

-- the normal text of the web address, if the text is one
unfoldable pub normal : List ℕ → Option (List ℕ)
normal text = option_map serialize (web_url text)

-- the parser ran out of room
abbrev pub is_out_of_room : ParseError → Bool
is_out_of_room OutOfMemory = true
is_out_of_room Overflow = true
is_out_of_room _ = false

-- the host of a URL, with its port if it has one (URL Standard, 4.1)
abbrev pub host_and_port : Parts → List ℕ
host_and_port url = text_between url BeforeHost AfterPort

-- its path, with its query if it has one (URL Standard, 4.1)
abbrev pub path_and_query : Parts → List ℕ
path_and_query url = text_between url BeforePath AfterQuery

-- The text is an IRI: the normal text of a valid web address, of at most 2,048 bytes.
pub record IsIri (text : List ℕ) : Type 0 where
  pub url : Parts
  pub valid : IsValid url
  pub web : is_web url ≡ true
  pub spelled : serialize url ≡ text
  pub short : length text ≤ 2048

-- the IRI that means everyone (W3C ActivityPub, 5.6)
abbrev pub public_iri : List ℕ
public_iri = codes "https://www.w3.org/ns/activitystreams#Public"

-- `/`, which begins a path
abbrev pub is_slash : ℕ → Bool
is_slash b = b == 47

-- `@`, which ends the user information
abbrev pub is_at : ℕ → Bool
is_at b = b == 64

-- `#`, which comes before the fragment
abbrev pub is_hash : ℕ → Bool
is_hash b = b == 35

-- what follows the `//` before the authority (RFC 3986, 3.2)
abbrev pub after_slashes : List ℕ → List ℕ
after_slashes text = after_first is_slash (after_first is_slash text)

-- the authority ends at the next `/` (RFC 3986, 3.2)
abbrev pub authority_of : List ℕ → List ℕ
authority_of text = before_first is_slash (after_slashes text)

-- the host, and the port if there is one: what follows the user information and its `@` (RFC 3986,
-- 3.2.1 to 3.2.3)
unfoldable pub host_of : List ℕ → List ℕ
host_of text = after_any is_at (authority_of text)

-- the path and the query: from the `/` after the authority up to `#` (RFC 3986, 3.3 and 3.4)
unfoldable pub target_of : List ℕ → List ℕ
target_of text = before_first is_hash (from_first is_slash (after_slashes text))
