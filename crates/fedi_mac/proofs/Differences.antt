-- Two numbers differ where their bits do.
use Rattle.std.proofs.Common.{◌≡◌, ℕ, arith}
use Rattle.std.specs.Int.Bits.{bit_xor, bit_or, xor_add_and}
use Rattle.std.proofs.lemmas.Nat.{and_le_l, and_le_r, le_or_l, le_or_r}

pub xor-same : (a b : ℕ) → bit_xor a b ≡ 0 → a ≡ b
xor-same a b none = omega (arith, none, xor_add_and a b, and_le_l a b, and_le_r a b)

pub or-left : (a b : ℕ) → bit_or a b ≡ 0 → a ≡ 0
or-left a b none = omega (arith, none, le_or_l a b)

pub or-right : (a b : ℕ) → bit_or a b ≡ 0 → b ≡ 0
or-right a b none = omega (arith, none, le_or_r a b)
