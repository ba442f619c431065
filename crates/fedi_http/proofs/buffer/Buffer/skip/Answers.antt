use Rattle.std.proofs.Common.{◌≤◌, ◌∙◌, length, drop, ap, arith, length-take}
use Rattle.fedi_http.specs.Moves.{Held}
use Rattle.fedi_http.proofs.PartLemmas.{part-drop}
use Rattle.fedi_http.proofs.buffer.Buffer.skip.Goals as goal

pub returns-clause-pending : goal.returns-clause-pending
returns-clause-pending c =
    let part = c.self.inside in
    let view = ap (λ (h : Held). h.pending) c.self.view_is in
    let few : c.args.count ≤ part.count = omega (arith, c.requires, ap length view, length-take part.count (drop part.start part.bytes.items)) in
    part-drop part.bytes.items part.start part.count c.args.count few ∙ ap (drop c.args.count) view
