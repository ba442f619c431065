-- Hosts of servers, and the addresses at them.
use Rattle.std.specs.Prelude.{◌≡◌, ℕ, Bool, true, ◌&&◌, ◌||◌, ◌==◌, nat_le, List, ◌++◌, length}
use Rattle.std.specs.Prelude.{slice_index, codes, Some}
use Rattle.std.specs.List.{list_all, before_first, after_first}
use Rattle.fedi_address.specs.Names.{is_lower, is_digit, is_name_byte}
use Rattle.fedi_address.specs.Iris.{normal}

-- a byte of a host's name (RFC 1123, 2.1, in lower case)
abbrev pub is_domain_byte : ℕ → Bool
is_domain_byte b = is_lower b || is_digit b || b == 46 || b == 45

-- a host's name: 1 to 253 such bytes
abbrev pub is_domain : List ℕ → Bool
is_domain text = nat_le 1 (length text) && nat_le (length text) 253 && list_all is_domain_byte text

-- a port: 1 to 5 digits
abbrev pub is_port : List ℕ → Bool
is_port text = nat_le 1 (length text) && nat_le (length text) 5 && list_all is_digit text

-- `:`, which comes before a port
abbrev pub is_colon : ℕ → Bool
is_colon b = b == 58

-- a name, `:` and a port
abbrev pub is_domain_and_port : List ℕ → Bool
is_domain_and_port text =
    is_domain (before_first is_colon text) && is_port (after_first is_colon text)

-- a name, with or without a port
abbrev pub is_host_text : List ℕ → Bool
is_host_text text = is_domain text || is_domain_and_port text

-- the address of a path at a host
abbrev pub address : List ℕ → List ℕ → List ℕ
address host path = codes "https://" ++ (host ++ path)

-- The text is a host: a name with or without a port such that `https://HOST/` is its own normal
-- text.
pub record IsHost (text : List ℕ) : Type 0 where
  pub shape : is_host_text text ≡ true
  pub own : normal (address text (codes "/")) ≡ Some (address text (codes "/"))

-- a byte of a plain path: `/` or a byte of a name
abbrev pub is_path_byte : ℕ → Bool
is_path_byte b = is_name_byte b || b == 47

-- a plain path: at most 128 such bytes, the first of which is `/`
abbrev pub is_plain_path : List ℕ → Bool
is_plain_path path =
    slice_index path 0 == 47 && nat_le (length path) 128 && list_all is_path_byte path
