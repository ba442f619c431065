-- Queries of targets (RFC 3986, section 3.4), which are read as forms (URL Standard, section 5.1).
use Rattle.std.specs.Prelude.{ℕ, ◌==◌, Bool, List, map, filter, bytes_eq}
use Rattle.std.specs.List.{after_first}
use Rattle.std.specs.Str.Lossy.{utf8_lossy}
use Rattle.form_urlencoded.specs.Form.{decode, raw_pairs}

-- the query: what follows the first question mark of a target, or nothing
abbrev pub query_of : List ℕ → List ℕ
query_of target = after_first (λ b. b == 63) target

-- the text that a name or a value encodes
abbrev pub decoded : List ℕ → List ℕ
decoded bytes = utf8_lossy (decode bytes)

-- the pair has this name
abbrev pub has_key : List ℕ → List ℕ × List ℕ → Bool
has_key key pair = bytes_eq (decoded pair.0) key

-- the value of a pair
abbrev pub value_of : List ℕ × List ℕ → List ℕ
value_of pair = decoded pair.1

-- the values of the pairs with this name, in order
unfoldable pub values_of : List ℕ → List ℕ → List (List ℕ)
values_of key query = map value_of (filter (has_key key) (raw_pairs query))
