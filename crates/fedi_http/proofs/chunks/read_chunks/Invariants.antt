use Rattle.std.proofs.Common.{◌-◌, ◌≤◌, length}
use Rattle.fedi_model.specs.declared.request.TheConstants.{BODY_LIMIT}
use Rattle.fedi_http.proofs.ChunkLemmas.{Joins}
use Rattle.fedi_http.proofs.chunks.read_chunks.Given as goal

abbrev pub invariant-chunks : goal.invariant-chunks
invariant-chunks g l = record {
  joins : Joins g.S.Source.left g.S.Source.read_faults g.S.Source.beside_source BODY_LIMIT l.fn.buffer.pending l.fn.source l.source l.buffer;
  bound : length l.buffer.body ≤ BODY_LIMIT;
}

abbrev pub decreases-chunks : goal.decreases-chunks
decreases-chunks g l = BODY_LIMIT - length l.buffer.body
