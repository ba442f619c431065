use Rattle.std.proofs.Common.{None}
use Rattle.fedi_program.proofs.NextLemmas.{line_for}
use Rattle.fedi_program.proofs.delivering.line_of.Goals as goal

pub returns : goal.returns
returns g c = λ p has.
    let of = c.claimed_of.ensures None p has in
    line_for _ _ p.activity p.recipient c.args.came c.attempt_line.result of.0 of.1
    c.attempt_line.ensures
