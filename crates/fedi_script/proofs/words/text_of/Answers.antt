use Rattle.std.proofs.Common.{◌≡◌, List, ℕ, if◌then◌else◌, option_copied, Some, None, Result, Ok, Err, MatchResult, IsUtf8, Bor, ap, refl, ◌∙◌}
use Rattle.std.specs.Str.{is_utf8}
use Rattle.std.specs.Result.{result_ok}
use Rattle.std.proofs.lemmas.Str.{is_utf8-from_IsUtf8, IsUtf8-from_is_utf8}
use Rattle.std.proofs.lemmas.Bool.{false_from_ne_true}
use Rattle.fedi_script.proofs.words.text_of.Goals as goal

text_is : {E : Type 0} (P : E → Type 0) (bytes : List ℕ) (r : Result (Bor (List ℕ)) E)
    → MatchResult r (λ s. (s.now ≡ bytes) × IsUtf8 bytes) (λ e. ¬ (IsUtf8 bytes) × P e)
    → option_copied (result_ok r) ≡ (if is_utf8 bytes then Some bytes else None)
text_is P bytes (Ok s) (same, utf8) = rw (is_utf8-from_IsUtf8 bytes utf8) (ap Some same)
text_is P bytes (Err e) (not_text, _) =
    rw (false_from_ne_true (is_utf8 bytes) (λ h. not_text (IsUtf8-from_is_utf8 bytes h))) refl

pub returns : goal.returns
returns c =
    ap option_copied c.ok.ensures.value ∙ text_is _ c.args.bytes.now c.from_utf8.result c.from_utf8.ensures.cases
