-- Numbers and their digits.
use Rattle.std.proofs.Common.{◌≡◌, ◌≢◌, ℕ, ◌<◌, ◌≤◌, ◌^◌, List, get_or, zero, suc, Ok, Err, sym, ◌∙◌, ap, arith}
use Rattle.std.specs.Prelude.{decimal}
use Rattle.std.proofs.lemmas.Fmt.{first_decimal, decimal_digit, decimal-digits_value, parse-decimal}
use Rattle.std.proofs.lemmas.Str.Parse.{IsNumeralModel, numerals_by_value, tells_digits, parse_plain}
use Rattle.std.specs.Str.Parse.{ParsesUnsigned, AllDigits, digits_value}
use Rattle.fedi_model.specs.Places.{IsNumber}

-- a number from 1 is written without a leading zero
pub number_begins : (n : ℕ) → IsNumber n → 48 < get_or (decimal n) 0 0
number_begins n h = first_decimal n (omega arith) (omega arith)

own : IsNumeralModel (AllDigits 10) (digits_value 10)
own = numerals_by_value (AllDigits 10) tells_digits

written_above_zero : (bs : List ℕ) (m : ℕ) → decimal m ≡ bs → 48 < get_or bs 0 0 → 1 ≤ m
written_above_zero bs zero e h = absurd (omega (arith, rw (← e, decimal_digit 0 (omega arith)) at h))
written_above_zero bs (suc m) e h = omega arith

-- a number that is read from digits without a leading zero is written by them
pub number_written : (bs : List ℕ) (m : ℕ) → 48 < get_or bs 0 0 → ParsesUnsigned {E = ℕ} 32 10 bs (Ok m)
    → IsNumber m × (bs ≡ decimal m)
number_written bs m first h =
    let read = parse_plain own {E = ℕ} 32 bs (Ok m) h (λ e. omega arith) in
    let small : digits_value 10 bs < 2 ^ 64 = omega arith in
    let written : decimal m ≡ bs =
    ap decimal read.1 ∙ decimal-digits_value own bs read.0.0 read.0.1 (λ e. absurd (omega arith)) small in
    ((written_above_zero bs m written first, omega arith), sym written)

-- and a number that is not read is not written by them
pub number_unwritten : {E : Type 0} (bs : List ℕ) (e : E) (n : ℕ) → ParsesUnsigned 32 10 bs (Err e) → IsNumber n → bs ≢ decimal n
number_unwritten bs e n h small same = cc (parse-decimal 32 n bs (Err e) (omega arith) (omega arith) same h)
