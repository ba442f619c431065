-- Lemmas on the digits of a decimal number.
use Rattle.std.proofs.Common.{◌≡◌, ℕ, ◌+◌, ◌-◌, ◌*◌, ◌^◌, ◌<◌, ◌≤◌, true, List, [], ◌∷◌, length, take, get_or, arith, length-take, lit<}
use Rattle.std.proofs.Math.Nat.{pow-le-pow_right}
use Rattle.std.proofs.lemmas.Bool.{and_parts}
use Rattle.std.proofs.lemmas.Int.Digits.{digits_value-lt, digits_value_more}
use Rattle.std.proofs.lemmas.List.Elements.{All-take}
use Rattle.std.proofs.lemmas.List.Sums.{AllPass-from_list_all, list_all-from_AllPass}
use Rattle.std.proofs.lemmas.Str.{digit_value_digit}
use Rattle.std.proofs.lemmas.Bool.Decides.{nat_tests}
use Rattle.std.specs.Char.{is_ascii_digit, digit_value}
use Rattle.std.specs.List.{list_all}
use Rattle.std.specs.Str.Parse.{digits_value, AllDigits}
use Rattle.fedi_text.specs.Decimals.{is_decimal}

-- a digit is 0 to 9
digit_low : (c : ℕ) → is_ascii_digit c ≡ true → 48 ≤ c
digit_low c h = grind (arith, nat_tests)

digit_high : (c : ℕ) → is_ascii_digit c ≡ true → c ≤ 57
digit_high c h = grind (arith, nat_tests)

digit_is : (c : ℕ) → is_ascii_digit c ≡ true → digit_value c + 48 ≡ c
digit_is c h = digit_value_digit c (digit_low c h, digit_high c h)

pub digit_small : (c : ℕ) → is_ascii_digit c ≡ true → digit_value c < 10
digit_small c h = omega (arith, digit_is c h, digit_high c h)

pub all_digits : (ds : List ℕ) → list_all is_ascii_digit ds ≡ true → AllDigits 10 ds
all_digits [] h = tt
all_digits (c ∷ cs) h =
    let both = and_parts (is_ascii_digit c) (list_all is_ascii_digit cs) h in (digit_small c both.0, all_digits cs both.1)

-- 19 digits write a number of 64 bits
value_small : (ds : List ℕ) → list_all is_ascii_digit ds ≡ true → length ds ≤ 19 → digits_value 10 ds < 2 ^ 64
value_small ds digits few =
    let low : digits_value 10 ds < 10 ^ length ds = digits_value-lt 10 ds (all_digits ds digits) in
    let more : 10 ^ length ds ≤ 10 ^ 19 = pow-le-pow_right {n = 10} (lit< tt) few in
    let fits : 10 ^ 19 < 2 ^ 64 = lit< tt in omega arith

-- a decimal number has at most 19 bytes, and they are digits
decimal_few : (ds : List ℕ) → is_decimal ds ≡ true → length ds ≤ 19
decimal_few ds h = grind (arith, nat_tests)

pub decimal_digits : (ds : List ℕ) → is_decimal ds ≡ true → list_all is_ascii_digit ds ≡ true
decimal_digits ds h = grind (arith, nat_tests)

-- one more digit of a number
pub record NextDigit (ds : List ℕ) (i : ℕ) : Type 0 where
  pub low : 48 ≤ get_or ds i 0
  pub more : digits_value 10 (take (i + 1) ds) ≡ digits_value 10 (take i ds) * 10 + (get_or ds i 0 - 48)
  pub fits : digits_value 10 (take (i + 1) ds) < 2 ^ 64

pub next_digit : (ds : List ℕ) (i : ℕ) → is_decimal ds ≡ true → i < length ds → NextDigit ds i
next_digit ds i good inside =
    let digits = decimal_digits ds good in
    let here : is_ascii_digit (get_or ds i 0) ≡ true = AllPass-from_list_all is_ascii_digit ds digits i 0 inside in
    let front : list_all is_ascii_digit (take (i + 1) ds) ≡ true =
    list_all-from_AllPass is_ascii_digit (take (i + 1) ds) (All-take (λ d. is_ascii_digit d ≡ true) (i + 1) ds (AllPass-from_list_all is_ascii_digit ds digits)) in
    record {
      low = digit_low (get_or ds i 0) here;
      more = omega (arith, digits_value_more 10 ds i inside, digit_is (get_or ds i 0) here);
      fits = value_small (take (i + 1) ds) front (omega (arith, length-take (i + 1) ds, decimal_few ds good));
    }
