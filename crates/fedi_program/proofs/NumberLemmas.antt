-- A number of at most four digits.
use Rattle.std.proofs.Common.{◌≡◌, ◌^◌, ◌<◌, ◌≤◌, ℕ, true, List, length, arith, lit<}
use Rattle.std.specs.Str.Parse.{digits_value}
use Rattle.std.proofs.Math.Nat.{pow-le-pow_right}
use Rattle.std.proofs.lemmas.Int.Digits.{digits_value-lt}
use Rattle.fedi_text.specs.Decimals.{is_decimal}
use Rattle.fedi_text.proofs.DecimalLemmas.{all_digits, decimal_digits}

-- it fits in 16 bits
pub short_number : (word : List ℕ) → is_decimal word ≡ true → length word ≤ 4
    → digits_value 10 word < 2 ^ 16
short_number word decimal short =
    let below = digits_value-lt 10 word (all_digits word (decimal_digits word decimal)) in
    let most : 10 ^ length word ≤ 10 ^ 4 = pow-le-pow_right {n = 10} (lit< tt) short in
    let fits : 10 ^ 4 < 2 ^ 16 = lit< tt in omega arith
