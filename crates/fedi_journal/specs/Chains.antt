-- The chain of records: a digest of each record and of those before it.
use Rattle.std.specs.Prelude.{◌≡◌, ◌≢◌, ◌⊎◌, ◌≤◌, ℕ, List, [], ◌∷◌, ◌++◌, length, replicate, fold}
use Rattle.std.specs.Prelude.{Option, None, Some, take, Contains}
use Rattle.sha2.specs.Sha256.{sha256}
use Rattle.fedi_outside.specs.Images.{Format, plain, size_code}

-- the text that is hashed for a record after records of this chain: the chain, the length of the
-- record in eight bytes, the most significant first, and the record
unfoldable pub link_text : List ℕ → List ℕ → List ℕ
link_text before r = before ++ (size_code (length r) ++ r)

-- the chain of records of this chain followed by one more: the SHA-256 digest of that text
-- (FIPS 180-4, section 6.2)
abbrev pub link : List ℕ → List ℕ → List ℕ
link before r = sha256 (link_text before r)

-- the chain of no records: 32 zeros
abbrev pub no_chain : List ℕ
no_chain = replicate 32 0

-- the chain of these records
unfoldable pub chain : List (List ℕ) → List ℕ
chain rs = fold link no_chain rs

-- a record after records of this chain is followed by the chain of all of them, which is this one,
-- or by other bytes
abbrev pub IsLinked : List ℕ → List ℕ → List ℕ → Option (List ℕ) → Type 0
IsLinked before r rest (Some next) = (next ≡ link before r) × (take 32 rest ≡ next)
IsLinked before r rest None = take 32 rest ≢ link before r

-- FEDIJRN2, and records that are sealed by the chain of those up to them
abbrev pub chained : Format
chained = record {
  magic = 70 ∷ 69 ∷ 68 ∷ 73 ∷ 74 ∷ 82 ∷ 78 ∷ 50 ∷ [];
  width = 32;
  seal = λ before r. chain (before ++ r ∷ []);
  older = Some plain.magic;
}

-- FEDIJRN0, and the same seals: a file that is not yet a journal
abbrev pub hidden : Format
hidden = record {
  magic = 70 ∷ 69 ∷ 68 ∷ 73 ∷ 74 ∷ 82 ∷ 78 ∷ 48 ∷ [];
  width = 32;
  seal = λ before r. chain (before ++ r ∷ []);
  older = None;
}

-- the bytes begin with FEDIJRN0
abbrev pub IsHidden : List ℕ → Type 0
IsHidden bytes = take 8 bytes ≡ hidden.magic

-- ---- what a chain shows

-- the texts that the chain of these records hashes, from this chain on
abbrev pub texts_from : List ℕ → List (List ℕ) → List (List ℕ)
texts_from before [] = []
texts_from before (r ∷ rs) = link_text before r ∷ texts_from (link before r) rs

-- two different texts, one of the first and one of the second, have the same SHA-256 digest
abbrev pub Collide : List (List ℕ) → List (List ℕ) → Type 0
Collide xs ys =
    (a b : List ℕ) × Contains xs a × Contains ys b × (a ≢ b) × (sha256 a ≡ sha256 b)

-- these records are equal, or two different texts among those that their chains hash have the same
-- digest
abbrev pub AreEqualOrCollide : List (List ℕ) → List (List ℕ) → Type 0
AreEqualOrCollide xs ys = (xs ≡ ys) ⊎ Collide (texts_from no_chain xs) (texts_from no_chain ys)

-- equal chains of equally many records: the records are equal, or there is a collision of SHA-256
abbrev pub ChainsDetermine : Type 0
ChainsDetermine = (xs ys : List (List ℕ)) → length xs ≡ length ys → chain xs ≡ chain ys
    → AreEqualOrCollide xs ys

-- the same for records and the first of a longer list
abbrev pub PrefixesDetermine : Type 0
PrefixesDetermine = (xs ys : List (List ℕ)) → length xs ≤ length ys
    → chain xs ≡ chain (take (length xs) ys) → AreEqualOrCollide xs (take (length xs) ys)
