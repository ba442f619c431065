use Rattle.std.proofs.Common.{◌≡◌, take}
use Rattle.fedi_effects.proofs.roster.copies_of.Given as goal

abbrev pub invariant-loop-peer : goal.invariant-loop-peer
invariant-loop-peer l = l.copies.items ≡ take l.peer-index l.peers
