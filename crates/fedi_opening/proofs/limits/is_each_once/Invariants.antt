-- No IRI occurred twice so far.
use Rattle.std.proofs.Common.{◌≡◌, ℕ, length}
use Rattle.fedi_town.specs.Shapes as shapes
use Rattle.fedi_opening.proofs.limits.is_each_once.Given as goal

-- no IRI occurs twice exactly if none of the remaining ones does
abbrev pub invariant-loop-left : goal.invariant-loop-left
invariant-loop-left l = shapes.is_each_once l.left ≡ shapes.is_each_once l.iris

abbrev pub decreases-loop-left : goal.decreases-loop-left
decreases-loop-left l = length l.left
