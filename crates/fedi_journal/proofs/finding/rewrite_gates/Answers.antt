use Rattle.std.proofs.Common.{◌-◌, length, arith, sym}
use Rattle.fedi_journal.proofs.Rewriting.{last_before}
use Rattle.fedi_journal.proofs.finding.rewrite_gates.Goals as goal

pub rewrite-requires-clause-inside : goal.rewrite-requires-clause-inside
rewrite-requires-clause-inside g c =
    let gates = c.args.gates.now in
    let before = last_before c.requires.apart.0 gates c.args.end (length gates - 1) c.in-Some.field-0.now c.requires.apart.1 (sym c.in-Some.ensures.value) in
    omega (arith, before, c.requires.inside)
