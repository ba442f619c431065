-- Two requests, computed.
use Rattle.std.proofs.Common.{refl}
use Rattle.std.specs.Fmt.{digits}
use Rattle.hex.specs.Hex.{encode_with}
use Rattle.sha2.specs.Sha256.{sha256, first_words, schedule, rounds, compress, hash_after, digest_bytes}
use Rattle.fedi_address.specs.Iris.{host_of, target_of}
use Rattle.fedi_address.specs.Pieces.{after_any}
use Rattle.fedi_mac.specs.Hmac.{block_key, padded, inner_block, outer_block, hmac}
use Rattle.fedi_mac.specs.Signing.{signed_text}
use Rattle.fedi_delivery.specs.Examples.{WrittenRequests}
use Rattle.fedi_delivery.specs.Sending.{code_text, content_text, lookup_lines, lookup_request, post_lines, post_request, sender_lines}

pub written_requests : WrittenRequests
unfolding sha256 first_words schedule rounds compress hash_after digest_bytes block_key padded inner_block outer_block hmac encode_with digits signed_text host_of target_of after_any code_text content_text lookup_lines lookup_request post_lines post_request sender_lines
written_requests = record { lookup = refl; post = refl }
