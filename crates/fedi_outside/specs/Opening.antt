-- What a file is found to be when it is opened: a file of records, a damaged one, or no store.
use Rattle.std.specs.Prelude.{◌≡◌, ◌≢◌, ◌⊎◌, ◌<◌, ◌≤◌, ℕ, ◌+◌, List, length, get_or, take, drop}
use Rattle.std.specs.Prelude.{Some}
use Rattle.fedi_outside.specs.Images.{Format, AreShort, IsImage, front, gates_of, size_at}

module _ (f : Format) where
  -- these bytes begin with an open gate, then a whole record, sealed as one that follows those
  -- before it, and then the next gate
  pub record IsWhole (before : List (List ℕ)) (bytes : List ℕ) : Type 0 where
    pub opened : get_or bytes 0 0 ≡ 1
    pub long : 10 + f.width + size_at bytes ≤ length bytes
    pub sealed : take f.width (drop (9 + size_at bytes) bytes)
        ≡ f.seal before (take (size_at bytes) (drop 9 bytes))

  -- the file begins with these records, and the next gate is at this offset
  pub record Begins (rs : List (List ℕ)) (gate : ℕ) (bytes : List ℕ) : Type 0 where
    pub short : AreShort rs
    pub ends : gate ≡ length (front f rs)
    pub spelled : take gate bytes ≡ front f rs

  -- these bytes begin neither with a closed gate, nor with an open one followed by a whole record
  -- and the next gate
  pub record IsBad (before : List (List ℕ)) (bytes : List ℕ) : Type 0 where
    pub some : 0 < length bytes
    pub not_closed : get_or bytes 0 0 ≢ 0
    pub not_whole : IsWhole before bytes → ⊥

  -- the file is no file of records, and its first malformed gate is at this offset
  abbrev pub IsDamagedAt : ℕ → List ℕ → Type 0
  IsDamagedAt gate bytes = (rs : List (List ℕ)) × Begins rs gate bytes × IsBad rs (drop gate bytes)

  -- the file is too short for the magic and a gate, or begins neither with the magic nor with the
  -- older one
  abbrev pub IsNoStore : List ℕ → Type 0
  IsNoStore bytes =
      (length bytes < 9) ⊎ ((take 8 bytes ≢ f.magic) × (f.older ≡ Some (take 8 bytes) → ⊥))

  -- the file is long enough for a magic and a gate, and begins with the older magic
  abbrev pub IsOlder : List ℕ → Type 0
  IsOlder bytes = (9 ≤ length bytes) × (f.older ≡ Some (take 8 bytes))

  -- the file is one of records whose gates are at these offsets, and the closed gate is at this one
  abbrev pub IsFound : List ℕ → ℕ → List ℕ → Type 0
  IsFound gates end bytes =
      (rs : List (List ℕ)) × IsImage f rs bytes × (end ≡ length (front f rs))
      × (gates ≡ gates_of f 8 rs)
