use Rattle.std.proofs.Common.{◌≡◌, ◌-◌, ◌++◌, false, length}
use Rattle.fedi_http.specs.declared.chunks.TheConstants.{LINE_LIMIT}
use Rattle.fedi_http.specs.Chunks.{HasPartOfLine}
use Rattle.fedi_http.specs.Moves.{Reads}
use Rattle.fedi_http.proofs.chunks.read_line.Given as goal

abbrev pub invariant-reads : goal.invariant-reads
invariant-reads g l = record {
  reads : Reads g.S.Source.left g.S.Source.read_faults g.S.Source.beside_source l.fn.source l.source false (HasPartOfLine l.fn.buffer.pending)
      (λ more. l.buffer.pending ≡ l.fn.buffer.pending ++ more);
  body : l.buffer.body ≡ l.fn.buffer.body;
}

abbrev pub decreases-reads : goal.decreases-reads
decreases-reads g l = LINE_LIMIT - length l.buffer.pending
