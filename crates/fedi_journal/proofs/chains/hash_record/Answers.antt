use Rattle.std.proofs.Common.{ℕ, List, ◌≡◌, ◌++◌, length, take, drop, ◌∙◌, ap, sym, arith, rules, length-take-le, length-drop}
use Rattle.std.specs.Int.{to_be_bytes, w64}
use Rattle.sha2.specs.Sha256.{sha256}
use Rattle.fedi_outside.specs.Images.{size_code}
use Rattle.fedi_outside.proofs.ImageSteps.{of_some}
use Rattle.fedi_journal.proofs.ChainSteps.{text_by_pieces}
use Rattle.fedi_journal.proofs.chains.hash_record.Goals as goal

pub returns-clause-next : goal.returns-clause-next
unfolding size_code
returns-clause-next g c = λ bytes is.
    let tip = c.args.tip.now in
    let n = c.args.length in
    let disk = g.D.Disk.shown c.args.disk.now in
    let r = take n (drop c.args.at bytes) in
    let size = of_some disk.reads (λ all. disk.size ≡ length all) (g.met.D.Disk.told_size c.args.disk.now) bytes is in
    let long : length r ≡ n = length-take-le n (drop c.args.at bytes) (omega (arith, size, c.requires.inside, length-drop c.args.at bytes)) in
    let before : c.as_slice.result.now ++ c.as_slice-2.result.now ≡ tip ++ to_be_bytes w64 n = search rules in
    let got = c.finalize.ensures _ (c.in_ok-hash_all.ensures.held bytes _ is (c.update-2.ensures _ (c.update.ensures _ c.new-hasher.ensures))) in
    got ∙ (ap (λ (l : List ℕ). sha256 (l ++ r)) before ∙ ap sha256 (text_by_pieces tip (to_be_bytes w64 n) r (ap (to_be_bytes w64) (sym long))))
