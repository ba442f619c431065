use Rattle.std.proofs.Common.{ap, arith, length}
use Rattle.std.proofs.lemmas.Result.{err_from_is_err_and}
use Rattle.fedi_model.specs.declared.request.TheConstants.{BODY_LIMIT}
use Rattle.fedi_http.specs.Moves.{has_fault, is_fault}
use Rattle.fedi_http.proofs.ChunkLemmas.{chunk_read, data_ends, joined_from, joins_bound, line_ends, size_read, sizes_over, trailer_ends}
use Rattle.fedi_http.proofs.chunks.read_chunks.Goals as goal

pub chunks-init : goal.chunks-init
chunks-init g c = record {
  joins = joined_from g.S.Source.left g.S.Source.read_faults g.S.Source.beside_source BODY_LIMIT c.args.source.now c.args.buffer.now c.requires;
  bound = omega (arith, ap length c.requires);
}

pub returns-in_err-size-clause-reads : goal.returns-in_err-size-clause-reads
returns-in_err-size-clause-reads g c =
    let p = err_from_is_err_and c.from_residual.result c.from_residual.ensures.1 in
    rw (p.1, p.2)
    (line_ends g.S.Source.left g.S.Source.read_faults g.S.Source.beside_source BODY_LIMIT c.args.buffer.now.pending _ _ _ (is_fault c.in_err-size.field-0.0) c.in_err-size.field-0.0 c.chunks.buffer c.read_line.new.buffer
    c.chunks.invariant.joins c.in_err-size.ensures.reads c.read_line.ensures.body)

pub returns-then-size-eq0-clause-reads : goal.returns-then-size-eq0-clause-reads
returns-then-size-eq0-clause-reads g c =
    trailer_ends g.S.Source.left g.S.Source.read_faults g.S.Source.beside_source BODY_LIMIT c.args.buffer.now.pending _ _ _ (has_fault c.read_trailer.result) c.read_trailer.result c.in_ok-size.size c.read_line.new.buffer c.read_trailer.new.buffer
    (size_read g.S.Source.left g.S.Source.read_faults g.S.Source.beside_source BODY_LIMIT c.args.buffer.now.pending _ _ _ c.in_ok-size.size c.chunks.buffer c.read_line.new.buffer
    c.chunks.invariant.joins c.in_ok-size.ensures.reads c.read_line.ensures.body)
    c.if-size-eq0.true c.read_trailer.ensures.reads c.read_trailer.ensures.body

pub returns-then-size-body-clause-reads : goal.returns-then-size-body-clause-reads
returns-then-size-body-clause-reads g c =
    sizes_over g.S.Source.left g.S.Source.read_faults g.S.Source.beside_source BODY_LIMIT c.args.buffer.now.pending _ _ c.in_ok-size.size c.read_line.new.buffer
    (size_read g.S.Source.left g.S.Source.read_faults g.S.Source.beside_source BODY_LIMIT c.args.buffer.now.pending _ _ _ c.in_ok-size.size c.chunks.buffer c.read_line.new.buffer
    c.chunks.invariant.joins c.in_ok-size.ensures.reads c.read_line.ensures.body)
    (omega (arith, c.if-size-body.true, ap length c.body.ensures.body))

pub chunks-preserved : goal.chunks-preserved
chunks-preserved g c =
    let joins = chunk_read g.S.Source.left g.S.Source.read_faults g.S.Source.beside_source BODY_LIMIT c.args.buffer.now.pending _ _ _ c.in_ok-size.size c.read_line.new.buffer c.read_data.new.buffer
    (size_read g.S.Source.left g.S.Source.read_faults g.S.Source.beside_source BODY_LIMIT c.args.buffer.now.pending _ _ _ c.in_ok-size.size c.chunks.buffer c.read_line.new.buffer
    c.chunks.invariant.joins c.in_ok-size.ensures.reads c.read_line.ensures.body)
    (omega (arith, c.if-size-eq0.false))
    (omega (arith, c.if-size-body.false, ap length c.body.ensures.body, ap length c.read_line.ensures.body, c.chunks.invariant.bound)) c.in_ok-read_data.ensures.reads in
    record { joins = joins; bound = joins_bound g.S.Source.left g.S.Source.read_faults g.S.Source.beside_source BODY_LIMIT c.args.buffer.now.pending _ _ c.read_data.new.buffer joins }

pub returns-in_err-read_data-clause-reads : goal.returns-in_err-read_data-clause-reads
returns-in_err-read_data-clause-reads g c =
    let p = err_from_is_err_and c.from_residual-in_err-read_data.result c.from_residual-in_err-read_data.ensures.1 in
    rw (p.1, p.2)
    (data_ends g.S.Source.left g.S.Source.read_faults g.S.Source.beside_source BODY_LIMIT c.args.buffer.now.pending _ _ _ (is_fault c.in_err-read_data.field-0.0) c.in_err-read_data.field-0.0 c.in_ok-size.size c.read_line.new.buffer c.read_data.new.buffer
    (size_read g.S.Source.left g.S.Source.read_faults g.S.Source.beside_source BODY_LIMIT c.args.buffer.now.pending _ _ _ c.in_ok-size.size c.chunks.buffer c.read_line.new.buffer
    c.chunks.invariant.joins c.in_ok-size.ensures.reads c.read_line.ensures.body)
    (omega (arith, c.if-size-eq0.false)) (omega (arith, c.if-size-body.false, ap length c.body.ensures.body)) c.in_err-read_data.ensures.reads)
