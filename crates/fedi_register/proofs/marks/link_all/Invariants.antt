use Rattle.std.proofs.Common.{◌≡◌, length}
use Rattle.fedi_register.specs.Chains.{HasHeads, IsChained, marks_of}
use Rattle.fedi_register.proofs.marks.link_all.Given as goal

abbrev pub invariant-loop-place : goal.invariant-loop-place
invariant-loop-place l =
    (marks_of l.steps ≡ marks_of l.fn.steps) × (length l.heads ≡ length l.fn.heads)
    × IsChained (length l.fn.heads) l.steps l.place
    × HasHeads (length l.fn.heads) (marks_of l.steps) l.heads l.place
