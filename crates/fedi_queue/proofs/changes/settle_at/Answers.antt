use Rattle.fedi_queue.proofs.Listed.{few_at, next_got}
use Rattle.fedi_queue.proofs.changes.settle_at.Goals as goal

pub next_due-requires : goal.next_due-requires
next_due-requires c = few_at _ _ _ _ c.in-Some.ensures c.requires

pub returns-in-Some-clause-settled : goal.returns-in-Some-clause-settled
returns-in-Some-clause-settled c = (c.in-Some.ensures, next_got _ _ _ _ _ c.args.came c.args.moment _ c.in-Some.ensures c.next_due.ensures c.outcome_of.ensures)
