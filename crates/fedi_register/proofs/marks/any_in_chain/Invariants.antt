use Rattle.std.proofs.Common.{None}
use Rattle.fedi_register.proofs.Chains.{IsAlong}
use Rattle.fedi_register.proofs.marks.any_in_chain.Given as goal

abbrev pub invariant-loop-step : goal.invariant-loop-step
invariant-loop-step g l = IsAlong l.chains (goal.F-post g l.passes) l.steps l.mark l.next None

abbrev pub decreases-loop-step : goal.decreases-loop-step
decreases-loop-step g l = l.next
