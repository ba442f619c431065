use Rattle.fedi_register.proofs.Chains.{IsGathering}
use Rattle.fedi_register.proofs.marks.places_in_chain.Given as goal

abbrev pub invariant-loop-step : goal.invariant-loop-step
invariant-loop-step l = IsGathering l.chains l.steps l.mark l.next l.places.items

abbrev pub decreases-loop-step : goal.decreases-loop-step
decreases-loop-step l = l.next
