-- Codes that RFC 4231 gives as examples.
use Rattle.std.specs.Prelude.{◌≡◌, ℕ, List, replicate, codes}
use Rattle.hex.specs.Hex.{encode_lower}
use Rattle.fedi_mac.specs.Hmac.{hmac}

-- the digits of the code of a text under a key
abbrev pub code_digits : List ℕ → List ℕ → List ℕ
code_digits key text = encode_lower (hmac key text)

-- test cases 1, 2 and 6 (RFC 4231, sections 4.2, 4.3 and 4.7), the last under a key that is longer
-- than a block
pub record StandardCodes : Type 0 where
  pub first : code_digits (replicate 20 11) (codes "Hi There")
      ≡ codes "b0344c61d8db38535ca8afceaf0bf12b881dc200c9833da726e9376c2e32cff7"
  pub second : code_digits (codes "Jefe") (codes "what do ya want for nothing?")
      ≡ codes "5bdcc146bf60754e6a042426089575c75a003f089d2739839dec58b964ec3843"
  pub long_key : code_digits (replicate 131 170)
      (codes "Test Using Larger Than Block-Size Key - Hash Key First")
      ≡ codes "60e431591ee0b67f0d8a26aacbf5b77f8e0bc6213728c5140546040f0ee37f54"
