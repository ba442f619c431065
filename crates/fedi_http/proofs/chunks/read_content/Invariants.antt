use Rattle.std.proofs.Common.{◌-◌, ◌<◌, ◌++◌, false, length}
use Rattle.fedi_http.specs.Moves.{Reads}
use Rattle.fedi_http.proofs.ChunkLemmas.{IsJoining}
use Rattle.fedi_http.proofs.chunks.read_content.Given as goal

abbrev pub invariant-reads : goal.invariant-reads
invariant-reads g l =
    Reads g.S.Source.left g.S.Source.read_faults g.S.Source.beside_source l.fn.source l.source false (length l.fn.buffer.pending < l.size)
    (λ more. IsJoining l.size l.wanted l.fn.buffer (l.fn.buffer.pending ++ more) l.buffer)

abbrev pub decreases-reads : goal.decreases-reads
decreases-reads g l = l.wanted - length l.buffer.pending
