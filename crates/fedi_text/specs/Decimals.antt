-- Decimal numbers in texts.
use Rattle.std.specs.Prelude.{ℕ, Bool, ◌&&◌, nat_le, List, length}
use Rattle.std.specs.Char.{is_ascii_digit}
use Rattle.std.specs.List.{list_all}

-- 1 to 19 digits (DIGIT of RFC 5234, appendix B.1): no more than a number of 64 bits has room for,
-- whatever they are
abbrev pub is_decimal : List ℕ → Bool
is_decimal text = nat_le 1 (length text) && nat_le (length text) 19 && list_all is_ascii_digit text
