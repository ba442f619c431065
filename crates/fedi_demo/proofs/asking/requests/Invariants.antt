use Rattle.std.proofs.Common.{◌≡◌, ◌≤◌, ◌+◌, ◌-◌, ◌++◌}
use Rattle.fedi_demo.specs.Draws.{state_after}
use Rattle.fedi_demo.specs.Requests.{requests_text}
use Rattle.fedi_demo.proofs.asking.requests.Given as goal

abbrev pub invariant-requests : goal.invariant-requests
invariant-requests l = record {
  within : l.done ≤ l.count;
  text : l.text.items ++ requests_text l.draws (l.first + l.done) (l.count - l.done) ≡ requests_text l.fn.draws l.first l.count;
  state : state_after l.draws (l.count - l.done) ≡ state_after l.fn.draws l.count;
}

abbrev pub decreases-requests : goal.decreases-requests
decreases-requests l = l.count - l.done
