-- Codes of RFC 4231, computed.
use Rattle.std.proofs.Common.{refl}
use Rattle.hex.specs.Hex.{encode_with}
use Rattle.sha2.specs.Sha256.{sha256, first_words, schedule, rounds, compress, hash_after, digest_bytes}
use Rattle.fedi_mac.specs.Examples.{StandardCodes}
use Rattle.fedi_mac.specs.Hmac.{block_key, padded, inner_block, outer_block, hmac}

pub standard_codes : StandardCodes
unfolding sha256 first_words schedule rounds compress hash_after digest_bytes block_key padded inner_block outer_block hmac encode_with
standard_codes = record { first = refl; second = refl; long_key = refl }
