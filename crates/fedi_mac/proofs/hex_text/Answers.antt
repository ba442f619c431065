use Rattle.std.proofs.Common.{◌≡◌, arith, ap, rules}
use Rattle.std.specs.Result.{result_ok}
use Rattle.hex.specs.Hex.{IsBytes, encode_lower}
use Rattle.hex.proofs.HexLemmas.{decode_sized-encode_lower}
use Rattle.fedi_mac.specs.Keys.{key_of}
use Rattle.fedi_mac.proofs.hex_text.Goals as goal

pub returns-clause-back : goal.returns-clause-back
unfolding key_of
returns-clause-back c =
    let fits : IsBytes c.args.bytes.now = λ i. let f = c.fits-bytes i in omega arith in
    let text : c.encode_to_slice.new.output ≡ encode_lower c.args.bytes.now = search rules in
    rw text (ap result_ok (decode_sized-encode_lower c.args.bytes.now 32 c.told-bytes fits))
