use Rattle.std.proofs.Common.{◌≡◌, ◌-◌, ◌≤◌, ◌++◌, false, length}
use Rattle.fedi_http.specs.Heads.{IsLookedAt, LacksHead}
use Rattle.fedi_http.specs.Moves.{Reads}
use Rattle.fedi_http.specs.declared.heads.TheConstants.{HEAD_LIMIT}
use Rattle.fedi_http.proofs.heads.read_head.Given as goal

abbrev pub invariant-reads : goal.invariant-reads
invariant-reads g l = record {
  looked : IsLookedAt l.buffer.pending l.search.looked l.search.start;
  within : l.search.looked ≤ HEAD_LIMIT;
  reads : Reads g.S.Source.left g.S.Source.read_faults g.S.Source.beside_source l.fn.source l.source false (LacksHead HEAD_LIMIT l.fn.buffer.pending)
      (λ more. l.buffer.pending ≡ l.fn.buffer.pending ++ more);
  body : l.buffer.body ≡ l.fn.buffer.body;
}

abbrev pub decreases-reads : goal.decreases-reads
decreases-reads g l = HEAD_LIMIT - length l.buffer.pending
