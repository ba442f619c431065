use Rattle.std.proofs.Common.{◌≡◌, ◌++◌, length}
use Rattle.fedi_demo.specs.Summary.{statuses_in}
use Rattle.fedi_demo.proofs.printed.statuses_in.Given as goal

abbrev pub invariant-bytes : goal.invariant-bytes
invariant-bytes l = l.statuses.items ++ statuses_in l.left ≡ statuses_in l.fn.bytes

abbrev pub decreases-bytes : goal.decreases-bytes
decreases-bytes l = length l.left
