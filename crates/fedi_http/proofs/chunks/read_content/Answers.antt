use Rattle.std.proofs.Common.{length, arith, ap, length-drop}
use Rattle.std.proofs.lemmas.Result.{err_from_is_err_and}
use Rattle.fedi_http.proofs.ChunkLemmas.{joining_read, joining_stopped}
use Rattle.fedi_http.proofs.chunks.read_content.Goals as goal

pub reads-preserved : goal.reads-preserved
reads-preserved g c =
    joining_read g.S.Source.left g.S.Source.read_faults g.S.Source.beside_source _ _ _ c.args.size c.reads.wanted c.min-count.result c.args.buffer.now c.reads.buffer c.join.new.self c.fill.new.self
    (omega (arith, ap length c.pending.ensures.pending)) (omega (arith, ap length c.pending.ensures.pending)) c.reads.invariant c.join.ensures.body c.join.ensures.pending
    (omega (arith, ap length c.pending.ensures.pending, ap length c.join.ensures.pending, length-drop c.min-count.result c.reads.buffer.pending)) c.in_ok-fill.ensures.reads c.fill.ensures.body

pub returns-in_err-fill-clause-reads : goal.returns-in_err-fill-clause-reads
returns-in_err-fill-clause-reads g c =
    let p = err_from_is_err_and c.from_residual.result c.from_residual.ensures.1 in
    rw (p.1, p.2)
    (joining_stopped g.S.Source.left g.S.Source.read_faults g.S.Source.beside_source _ _ _ c.args.size c.reads.wanted c.min-count.result c.args.buffer.now c.reads.buffer c.join.new.self c.fill.new.self c.in_err-fill.field-0.0
    (omega (arith, ap length c.pending.ensures.pending)) (omega (arith, ap length c.pending.ensures.pending)) c.reads.invariant c.join.ensures.body c.join.ensures.pending
    (omega (arith, ap length c.pending.ensures.pending, ap length c.join.ensures.pending, length-drop c.min-count.result c.reads.buffer.pending)) c.in_err-fill.ensures.reads c.in_err-fill.ensures.same c.in_err-fill.ensures.errors)
