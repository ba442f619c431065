-- A signed request, computed.
use Rattle.std.proofs.Common.{◌≡◌, refl, ap, ℕ, Bool, true, List, Some, None, option_map}
use Rattle.std.specs.Prelude.{codes, if◌then◌else◌}
use Rattle.std.specs.Str.{is_utf8}
use Rattle.hex.specs.Hex.{decode_pairs}
use Rattle.sha2.specs.Sha256.{sha256, first_words, schedule, rounds, compress, hash_after, digest_bytes}
use Rattle.fedi_mac.specs.Hmac.{block_key, padded, inner_block, outer_block, hmac}
use Rattle.fedi_mac.specs.Keys.{key_of}
use Rattle.fedi_mac.specs.Signing.{signed_text}
use Rattle.fedi_objects.proofs.KeyLemmas.{is_utf8_key}
use Rattle.fedi_town.specs.Towns.{has_host}
use Rattle.fedi_model.specs.Answers.{caller_of}
use Rattle.fedi_model.specs.Callers.{is_signed, caller_among, caller_by}
use Rattle.fedi_model.specs.Credentials.{Mac, code_of, is_lower_hex, signed_by}
use Rattle.fedi_laws.specs.SignedRequests.{SignedDelivery, body, changed_code, club, code, delivery, hill, upper_code}

-- the host is a text, so the result depends on the code
by_code : (host code body : List ℕ) → is_utf8 host ≡ true
    → caller_of club (delivery None (Some host) (Some code)) body
    ≡ caller_by club (Mac (option_map (signed_by (delivery None (Some host) (Some code)) body host) (code_of code)))
by_code host code body text =
    ap (λ (t : Bool). caller_by club (Mac (if t then option_map (signed_by (delivery None (Some host) (Some code)) body host) (code_of code) else None))) text

pub signed_delivery : SignedDelivery
unfolding decode_pairs sha256 first_words schedule rounds compress hash_after digest_bytes block_key padded inner_block outer_block hmac key_of signed_text has_host is_signed caller_among caller_by is_lower_hex
signed_delivery = record {
  signed = by_code hill code body (is_utf8_key hill refl);
  changed = by_code hill changed_code body (is_utf8_key hill refl);
  in_upper_case = by_code hill upper_code body (is_utf8_key hill refl);
  of_another_body = by_code hill code (codes "[]") (is_utf8_key hill refl);
  of_a_stranger = by_code (codes "lake.example") code body (is_utf8_key (codes "lake.example") refl);
  without_host = refl;
  without_code = refl;
  without_fields = refl;
  with_key = refl;
}
