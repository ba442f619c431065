-- What is written after a gate, and the record in doubt.
use Rattle.std.specs.Prelude.{ℕ, ◌+◌, ◌-◌, Bool, List, [], ◌∷◌, ◌++◌, length, take, drop}
use Rattle.std.specs.Prelude.{Option, Some, None, if◌then◌else◌}
use Rattle.std.specs.Int.{to_be_bytes, w64}

-- the length of a record in eight bytes, the most significant first, the record, its seal, and a
-- closed gate
abbrev pub block_of : List ℕ → List ℕ → List ℕ
block_of payload seal = to_be_bytes w64 (length payload) ++ (payload ++ (seal ++ 0 ∷ []))

-- the record in such a block, if seals have this width
abbrev pub payload_of : ℕ → List ℕ → List ℕ
payload_of width block = take (length block - (9 + width)) (drop 8 block)

-- the record in the block, if it is in doubt
abbrev pub doubt_in : ℕ → Bool → List ℕ → Option (List ℕ)
doubt_in width in_doubt block = if in_doubt then Some (payload_of width block) else None
