use Rattle.std.proofs.Common.{◌≡◌, ◌+◌, ◌≤◌, length}
use Rattle.fedi_demo.specs.Summary.{times}
use Rattle.fedi_demo.proofs.printed.times.Given as goal

abbrev pub invariant-statuses : goal.invariant-statuses
invariant-statuses l = record {
  short : l.count + length l.left ≤ length l.fn.statuses;
  count : l.count + times l.status l.left ≡ times l.fn.status l.fn.statuses;
}

abbrev pub decreases-statuses : goal.decreases-statuses
decreases-statuses l = length l.left
