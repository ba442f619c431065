use Rattle.std.proofs.Common.{refl, arith, inr}
use Rattle.std.proofs.lemmas.Result.{err_from_is_err_and}
use Rattle.fedi_http.specs.Chunks.{EndsInTrailer, HasPartOfTrailer}
use Rattle.fedi_http.specs.Moves.{is_fault}
use Rattle.fedi_http.proofs.ChunkLemmas.{lacks_nothing, trailer_lacks}
use Rattle.fedi_http.proofs.ReadLemmas.{pending_start, stopped}
use Rattle.fedi_http.proofs.chunks.read_trailer.Goals as goal

pub reads-init : goal.reads-init
reads-init g c = record {
  within = omega arith;
  short = omega arith;
  lacks = lacks_nothing c.args.buffer.now.pending;
  reads = pending_start g.S.Source.left g.S.Source.read_faults g.S.Source.beside_source c.args.source.now HasPartOfTrailer c.args.buffer.now.pending;
  body = refl;
}

pub returns-in_err-fill-clause-reads : goal.returns-in_err-fill-clause-reads
returns-in_err-fill-clause-reads g c =
    let p = err_from_is_err_and c.from_residual.result c.from_residual.ensures.1 in
    let part : HasPartOfTrailer c.reads.buffer.pending =
    trailer_lacks c.reads.buffer.pending c.pending.result.now c.pending-looked.result.now c.pending.ensures.pending c.pending-looked.ensures.pending c.if-looked-ge-TRAILER_LIMIT.false c.in_default.ensures.none in
    rw (p.1, p.2)
    (stopped g.S.Source.left g.S.Source.read_faults g.S.Source.beside_source _ _ _ (is_fault c.in_err-fill.field-0.0) HasPartOfTrailer (λ bytes o. EndsInTrailer bytes o c.fill.new.self.pending)
    c.args.buffer.now.pending c.reads.buffer.pending c.fill.new.self.pending c.in_err-fill.field-0.0
    c.reads.invariant.reads part c.in_err-fill.ensures.reads c.in_err-fill.ensures.same c.in_err-fill.ensures.errors (inr (inr (refl, part))))
