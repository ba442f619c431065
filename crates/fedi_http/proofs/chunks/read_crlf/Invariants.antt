use Rattle.std.proofs.Common.{◌≡◌, ◌-◌, ◌++◌, false, length}
use Rattle.fedi_http.specs.Chunks.{IsPartOfCrlf}
use Rattle.fedi_http.specs.Moves.{Reads}
use Rattle.fedi_http.proofs.chunks.read_crlf.Given as goal

abbrev pub invariant-reads : goal.invariant-reads
invariant-reads g l = record {
  reads : Reads g.S.Source.left g.S.Source.read_faults g.S.Source.beside_source l.fn.source l.source false (IsPartOfCrlf l.fn.buffer.pending)
      (λ more. l.buffer.pending ≡ l.fn.buffer.pending ++ more);
  body : l.buffer.body ≡ l.fn.buffer.body;
}

abbrev pub decreases-reads : goal.decreases-reads
decreases-reads g l = 2 - length l.buffer.pending
