use Rattle.fedi_world.proofs.Finding.{found_at, none_at, shut_at}
use Rattle.fedi_world.proofs.ending.has_open.Goals as goal

pub returns-then-number-attempts-clause-some : goal.returns-then-number-attempts-clause-some
returns-then-number-attempts-clause-some g c =
    found_at g.args.attempts.now g.args.number g.index-attempts-number.result g.is_open.result g.if-number-attempts.true g.index-attempts-number.is g.is_open.ensures c

pub returns-then-number-attempts-clause-none : goal.returns-then-number-attempts-clause-none
returns-then-number-attempts-clause-none g c =
    shut_at g.args.attempts.now g.args.number g.index-attempts-number.result g.is_open.result g.if-number-attempts.true g.index-attempts-number.is g.is_open.ensures c

pub returns-else-number-attempts-clause-none : goal.returns-else-number-attempts-clause-none
returns-else-number-attempts-clause-none g c =
    none_at g.args.attempts.now g.args.number g.if-number-attempts.false
