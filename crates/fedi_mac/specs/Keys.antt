-- Keys and their texts.
use Rattle.std.specs.Prelude.{ℕ, List, Option}
use Rattle.std.specs.Result.{result_ok}
use Rattle.hex.specs.Hex.{decode_sized}

-- how many bytes a key has, and a digest of SHA-256 (FIPS 180-4, section 1)
abbrev pub key_size : ℕ
key_size = 32

-- the key that 64 hexadecimal digits, of either case, write (RFC 4648, section 8)
unfoldable pub key_of : List ℕ → Option (List ℕ)
key_of text = result_ok (decode_sized text key_size)
