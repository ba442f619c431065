use Rattle.std.proofs.Common.{◌≡◌, take}
use Rattle.fedi_effects.proofs.members.copies_of.Given as goal

abbrev pub invariant-loop-member : goal.invariant-loop-member
invariant-loop-member l = l.copies.actors ≡ take l.member-index l.members
