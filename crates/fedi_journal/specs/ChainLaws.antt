-- Chains have 32 bytes, so formats that are sealed by them are formats.
use Rattle.std.proofs.Common.{◌≡◌, ℕ, List, [], ◌∷◌, ◌++◌, length, refl}
use Rattle.std.specs.Prelude.{fold}
use Rattle.sha2.proofs.Facts256.{length-sha256}
use Rattle.fedi_outside.specs.Images.{IsFormat, plain}
use Rattle.fedi_outside.proofs.ImageLemmas.{digits_apart, none_apart, some_apart}
use Rattle.fedi_journal.specs.Chains.{chain, chained, hidden, link, link_text, no_chain}

length_from : (before : List ℕ) (rs : List (List ℕ)) → length before ≡ 32
    → length (fold link before rs) ≡ 32
length_from before [] is = is
length_from before (r ∷ rs) is = length_from (link before r) rs (length-sha256 (link_text before r))

pub length_chain : (rs : List (List ℕ)) → length (chain rs) ≡ 32
unfolding chain
length_chain rs = length_from no_chain rs refl

pub chained_ok : IsFormat chained
chained_ok = record {
  eight = refl;
  wide = λ before r. length_chain (before ++ r ∷ []);
  other = some_apart plain.magic chained.magic (digits_apart plain.magic chained.magic 7 refl);
}

pub hidden_ok : IsFormat hidden
hidden_ok = record {
  eight = refl;
  wide = λ before r. length_chain (before ++ r ∷ []);
  other = none_apart hidden.magic;
}
