use Rattle.fedi_http.specs.Chunks.{LacksTrailer}
use Rattle.fedi_http.proofs.chunks.trailer_in.Given as goal

abbrev pub invariant-loop-at : goal.invariant-loop-at
invariant-loop-at l = LacksTrailer l.at l.bytes
