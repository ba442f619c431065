-- Whether bytes are UTF-8, as a test, and the form of a text.
use Rattle.std.proofs.Common.{◌≡◌, ℕ, Bool, true, false, List, Option, Some, None, refl}
use Rattle.std.specs.Prelude.{IfSome, IsTrue}
use Rattle.std.specs.Str.{is_utf8, IsUtf8}
use Rattle.std.proofs.lemmas.Str.{IsUtf8-from_is_utf8, is_utf8-from_IsUtf8}
use Rattle.fedi_entry.specs.Fields.{IsText}
use Rattle.fedi_entry.specs.Limits.{IfPasses}

pub is_utf8_text : (bytes : List ℕ) → IsUtf8 bytes → is_utf8 bytes ≡ true
is_utf8_text = is_utf8-from_IsUtf8

pub is_no_utf8 : (bytes : List ℕ) → ¬ (IsUtf8 bytes) → is_utf8 bytes ≡ false
is_no_utf8 bytes fails = by (is_utf8 bytes) refl
  where
    by : (t : Bool) → is_utf8 bytes ≡ t → is_utf8 bytes ≡ false
    by true is = absurd (fails (IsUtf8-from_is_utf8 bytes is))
    by false is = is

-- an optional text that is UTF-8 and passes the test is well formed
pub if_text : (test : List ℕ → Bool) (o : Option (List ℕ)) → IfSome o (λ bytes. IsTrue (is_utf8 bytes)) → IfPasses test o → IfSome o (IsText test)
if_text test None utf8 passes = tt
if_text test (Some text) utf8 passes = record { utf8 = utf8; passes = passes }
