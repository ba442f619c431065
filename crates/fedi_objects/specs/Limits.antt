-- The limits on the contents of an entry, each on one field by itself.
use Rattle.std.specs.Prelude.{ℕ, Bool, ◌&&◌, nat_le, List, length}
use Rattle.std.specs.List.{list_all}
use Rattle.fedi_objects.specs.Keys.{is_visible}

-- the text has at most 65,536 bytes
unfoldable pub is_text : List ℕ → Bool
is_text text = nat_le (length text) 65536

-- a type: 1 to 64 bytes
unfoldable pub is_type : List ℕ → Bool
is_type text = nat_le 1 (length text) && nat_le (length text) 64

-- a printing ASCII character or a space
abbrev pub is_date_byte : ℕ → Bool
is_date_byte b = nat_le 32 b && nat_le b 126

-- a date as it was given: at most 64 such bytes
unfoldable pub is_date : List ℕ → Bool
is_date text = nat_le (length text) 64 && list_all is_date_byte text

-- the address of a peer: 1 to 255 printing ASCII characters other than a space
abbrev pub is_address : List ℕ → Bool
is_address text = (nat_le 1 (length text) && nat_le (length text) 255) && list_all is_visible text
