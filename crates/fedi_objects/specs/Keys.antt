-- Keys that a client uses to mark a repeated post (the header field Idempotency-Key).
use Rattle.std.specs.Prelude.{ℕ, Bool, ◌&&◌, nat_le, List, length}
use Rattle.std.specs.List.{list_all}

-- a printing ASCII character other than a space (VCHAR of RFC 5234, appendix B.1)
abbrev pub is_visible : ℕ → Bool
is_visible b = nat_le 33 b && nat_le b 126

-- 1 to 64 such bytes
abbrev pub is_repeat_key : List ℕ → Bool
is_repeat_key text = nat_le 1 (length text) && nat_le (length text) 64 && list_all is_visible text
