use Rattle.std.proofs.Common.{◌≡◌, ◌≤◌, ◌+◌, ◌-◌, ◌++◌}
use Rattle.fedi_demo.specs.Summary.{status_counts}
use Rattle.fedi_demo.proofs.printed.put_statuses_from.Given as goal

abbrev pub invariant-lines : goal.invariant-lines
invariant-lines l = record {
  within : l.done ≤ l.count;
  text : l.text.items ++ status_counts l.statuses (l.first + l.done) (l.count - l.done)
      ≡ l.fn.text.items ++ status_counts l.fn.statuses l.first l.count;
}

abbrev pub decreases-lines : goal.decreases-lines
decreases-lines l = l.count - l.done
