-- A key for repeats is ASCII.
use Rattle.std.proofs.Common.{◌≡◌, ℕ, List, [], ◌∷◌, true, length, arith, zero, suc}
use Rattle.std.specs.Prelude.{◌&&◌, nat_le}
use Rattle.std.specs.List.{list_all}
use Rattle.std.specs.Str.{IsUtf8, IsAscii, is_utf8}
use Rattle.std.proofs.lemmas.Str.{IsUtf8-from_ascii, is_utf8-from_IsUtf8}
use Rattle.std.proofs.lemmas.Bool.{and_parts}
use Rattle.std.proofs.lemmas.Bool.Decides.{nat_tests}
use Rattle.fedi_objects.specs.Keys.{is_visible, is_repeat_key}

key_bytes_ascii : (xs : List ℕ) → list_all is_visible xs ≡ true → IsAscii xs
key_bytes_ascii [] h i = grind arith
key_bytes_ascii (x ∷ xs) h zero = grind (arith, nat_tests)
key_bytes_ascii (x ∷ xs) h (suc i) =
    key_bytes_ascii xs (and_parts (is_visible x) (list_all is_visible xs) h).1 i

-- a key is ASCII, so it is UTF-8
pub key_is_utf8 : (text : List ℕ) → is_repeat_key text ≡ true → IsUtf8 text
key_is_utf8 text h =
    IsUtf8-from_ascii text
    (key_bytes_ascii text (and_parts (nat_le 1 (length text) && nat_le (length text) 64) (list_all is_visible text) h).1)

pub is_utf8_key : (text : List ℕ) → is_repeat_key text ≡ true → is_utf8 text ≡ true
is_utf8_key text h = is_utf8-from_IsUtf8 text (key_is_utf8 text h)
