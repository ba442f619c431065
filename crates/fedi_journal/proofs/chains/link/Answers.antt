use Rattle.std.proofs.Common.{rules, ◌≡◌, ◌++◌, ◌∙◌, ap, length, refl}
use Rattle.std.specs.Int.{to_be_bytes, w64}
use Rattle.sha2.specs.Sha256.{sha256}
use Rattle.fedi_outside.specs.Images.{size_code}
use Rattle.fedi_journal.proofs.ChainSteps.{text_by_pieces}
use Rattle.fedi_journal.proofs.chains.link.Goals as goal

pub returns : goal.returns
unfolding size_code
returns c =
    let p = c.args.payload.now in
    let got : c.finalize.result ≡ sha256 ((c.args.tip.now ++ to_be_bytes w64 (length p)) ++ p) = search rules in
    got ∙ ap sha256 (text_by_pieces c.args.tip.now (to_be_bytes w64 (length p)) p refl)
