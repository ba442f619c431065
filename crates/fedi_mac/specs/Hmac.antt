-- HMAC with SHA-256 (RFC 2104, section 2).
use Rattle.std.specs.Prelude.{ℕ, ◌-◌, nat_lt, bit_xor, List, ◌++◌, map, length, replicate}
use Rattle.std.specs.Prelude.{if◌then◌else◌}
use Rattle.sha2.specs.Sha256.{sha256}

-- a key that is longer than a block, which has 64 bytes, is replaced by its digest
abbrev pub short_key : List ℕ → List ℕ
short_key key = if nat_lt 64 (length key) then sha256 key else key

-- zeros are appended up to the length of a block
abbrev pub filled : List ℕ → List ℕ
filled key = key ++ replicate (64 - length key) 0

-- the key as a block
unfoldable pub block_key : List ℕ → List ℕ
block_key key = filled (short_key key)

-- a byte XOR the byte of a pad
unfoldable pub padded : ℕ → ℕ → ℕ
padded pad byte = bit_xor byte pad

-- the key XOR ipad, which repeats the byte 54 (36 in hexadecimal)
unfoldable pub inner_block : List ℕ → List ℕ
inner_block key = map (padded 54) (block_key key)

-- the key XOR opad, which repeats the byte 92 (5C in hexadecimal)
unfoldable pub outer_block : List ℕ → List ℕ
outer_block key = map (padded 92) (block_key key)

-- the code of a text under a key: H(K XOR opad, H(K XOR ipad, text))
unfoldable pub hmac : List ℕ → List ℕ → List ℕ
hmac key text = sha256 (outer_block key ++ sha256 (inner_block key ++ text))
