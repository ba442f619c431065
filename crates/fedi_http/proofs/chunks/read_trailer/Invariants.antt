use Rattle.std.proofs.Common.{◌≡◌, ◌-◌, ◌≤◌, ◌++◌, false, length}
use Rattle.fedi_http.specs.declared.chunks.TheConstants.{TRAILER_LIMIT}
use Rattle.fedi_http.specs.Chunks.{HasPartOfTrailer, LacksTrailer}
use Rattle.fedi_http.specs.Moves.{Reads}
use Rattle.fedi_http.proofs.chunks.read_trailer.Given as goal

abbrev pub invariant-reads : goal.invariant-reads
invariant-reads g l = record {
  within : l.looked ≤ length l.buffer.pending;
  short : l.looked ≤ TRAILER_LIMIT;
  lacks : LacksTrailer l.looked l.buffer.pending;
  reads : Reads g.S.Source.left g.S.Source.read_faults g.S.Source.beside_source l.fn.source l.source false (HasPartOfTrailer l.fn.buffer.pending)
      (λ more. l.buffer.pending ≡ l.fn.buffer.pending ++ more);
  body : l.buffer.body ≡ l.fn.buffer.body;
}

abbrev pub decreases-reads : goal.decreases-reads
decreases-reads g l = TRAILER_LIMIT - length l.buffer.pending
