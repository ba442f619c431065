-- What a file of records looks like.
use Rattle.std.specs.Prelude.{◌≡◌, ◌≢◌, ◌<◌, ◌^◌, ℕ, zero, suc, ◌+◌, List, [], ◌∷◌, ◌++◌, length}
use Rattle.std.specs.Prelude.{get_or, take, drop, Option, Some, None}
use Rattle.std.specs.Int.{to_be_bytes, from_be_bytes, w64}

-- how a file encodes its records
pub record Format : Type 0 where
  pub magic : List ℕ  -- the bytes that it begins with
  pub width : ℕ  -- how many bytes seal a record
  pub seal : List (List ℕ) → List ℕ → List ℕ  -- the seal of a record after the records before it
  pub older : Option (List ℕ)  -- the magic of the format before this one, if there is one

-- the magic has eight bytes, and each seal its width; the older magic is another
pub record IsFormat (f : Format) : Type 0 where
  pub eight : length f.magic ≡ 8
  pub wide : (before : List (List ℕ)) (r : List ℕ) → length (f.seal before r) ≡ f.width
  pub other : f.older ≡ Some f.magic → ⊥

-- FEDIJRN1, and records that are not sealed
abbrev pub plain : Format
plain = record {
  magic = 70 ∷ 69 ∷ 68 ∷ 73 ∷ 74 ∷ 82 ∷ 78 ∷ 49 ∷ [];
  width = 0;
  seal = λ before r. [];
  older = None;
}

-- a number in eight bytes, the most significant first
unfoldable pub size_code : ℕ → List ℕ
size_code n = to_be_bytes w64 n

-- the length of the record after the gate at the start of these bytes
unfoldable pub size_at : List ℕ → ℕ
size_at bytes = from_be_bytes w64 (take 8 (drop 1 bytes))

-- the lengths of these records fit into eight bytes each
abbrev pub AreShort : List (List ℕ) → Type 0
AreShort [] = Unit {0}
AreShort (r ∷ rs) = (length r < 2 ^ 64) × AreShort rs

-- these records, and the one in doubt if there is one
abbrev pub with_doubt : List (List ℕ) → Option (List ℕ) → List (List ℕ)
with_doubt rs None = rs
with_doubt rs (Some p) = rs ++ p ∷ []

module _ (f : Format) where
  -- what follows the gate of a record: its length, its bytes and its seal
  unfoldable pub record_code : List (List ℕ) → List ℕ → List ℕ
  record_code before r = size_code (length r) ++ (r ++ f.seal before r)

  -- records after open gates, if these records come before them
  abbrev pub blocks : List (List ℕ) → List (List ℕ) → List ℕ
  blocks before [] = []
  blocks before (r ∷ rs) = 1 ∷ (record_code before r ++ blocks (before ++ r ∷ []) rs)

  -- everything before the closed gate
  unfoldable pub front : List (List ℕ) → List ℕ
  front rs = f.magic ++ blocks [] rs

  -- these records, a closed gate, and then anything
  abbrev pub IsClosedAfter : List (List ℕ) → List ℕ → Type 0
  IsClosedAfter rs bytes = bytes ≡ front rs ++ 0 ∷ drop (length (front rs) + 1) bytes

  -- a file of these records
  pub record IsImage (rs : List (List ℕ)) (bytes : List ℕ) : Type 0 where
    pub short : AreShort rs
    pub spelled : IsClosedAfter rs bytes

  -- The bytes are a file of no other records than these. Bytes that are no file of records
  -- represent any records. So a proof that everything a crash leaves represents certain records
  -- also shows that a crash leaves files of records.
  abbrev pub StandsFor : List ℕ → List (List ℕ) → Type 0
  StandsFor bytes rs = (others : List (List ℕ)) → IsImage others bytes → others ≡ rs

  -- ---- reading

  -- this many records from the start of these bytes
  abbrev pub records_at : ℕ → List ℕ → List (List ℕ)
  records_at zero bytes = []
  records_at (suc n) bytes =
      take (size_at bytes) (drop 9 bytes) ∷ records_at n (drop (9 + f.width + size_at bytes) bytes)

  -- this many records from the start of a file
  unfoldable pub kept_in : ℕ → List ℕ → List (List ℕ)
  kept_in n bytes = records_at n (drop 8 bytes)

  -- the offsets of the gates of these records, if the first is at this offset
  abbrev pub gates_of : ℕ → List (List ℕ) → List ℕ
  gates_of at [] = []
  gates_of at (r ∷ rs) = at ∷ gates_of (at + (9 + f.width + length r)) rs

  -- ---- what is in doubt

  -- the byte of the gate after these records
  abbrev pub gate_behind : List (List ℕ) → List ℕ → ℕ
  gate_behind rs bytes = get_or bytes (length (front rs)) 0

  -- the gate after the first records is closed, and the bytes have them; or it is open, and the
  -- bytes have the second ones
  pub record StandsAtGate (rs more : List (List ℕ)) (bytes : List ℕ) : Type 0 where
    pub closed : gate_behind rs bytes ≡ 0 → IsClosedAfter rs bytes
    pub opened : gate_behind rs bytes ≢ 0 → IsClosedAfter more bytes
