use Rattle.std.proofs.Common.{refl, false, inl, inr, subst, ◌∙◌}
use Rattle.std.proofs.lemmas.Result.{err_from_is_err_and}
use Rattle.fedi_town.specs.declared.refusal.Refusal.TheVariants.{BadHead}
use Rattle.fedi_http.specs.Chunks.{EndsInLine, HasPartOfLine, HasWrongLine, Tells}
use Rattle.fedi_http.specs.Moves.{is_fault}
use Rattle.fedi_http.specs.declared.read_error.ReadError.TheVariants.{Refused}
use Rattle.fedi_http.proofs.ReadLemmas.{grown, read_of, stopped}
use Rattle.fedi_http.proofs.chunks.read_line.Goals as goal

pub returns-in_err-line-clause-reads : goal.returns-in_err-line-clause-reads
returns-in_err-line-clause-reads g c =
    let p = err_from_is_err_and c.from_residual.result c.from_residual.ensures.1 in
    let bad = c.in_err-line.ensures in
    let wrong : HasWrongLine c.reads.buffer.pending = subst HasWrongLine c.pending.ensures.pending bad.1 in
    rw (p.1, p.2, bad.0)
    (read_of g.S.Source.left g.S.Source.read_faults g.S.Source.beside_source _ _ false (HasPartOfLine c.args.buffer.now.pending) c.args.buffer.now.pending c.reads.buffer.pending
    (λ bytes. Tells (Refused BadHead) (EndsInLine bytes)) c.reads.invariant.reads (inl (refl, inl (refl, wrong))))

pub returns-in_err-fill-in-None-clause-reads : goal.returns-in_err-fill-in-None-clause-reads
returns-in_err-fill-in-None-clause-reads g c =
    let p = err_from_is_err_and c.from_residual-in_err-fill-in-None.result c.from_residual-in_err-fill-in-None.ensures.1 in
    let found = rw c.in-None.is at c.in_ok-line.ensures in
    let part : HasPartOfLine c.reads.buffer.pending = subst HasPartOfLine c.pending.ensures.pending found in
    rw (p.1, p.2)
    (stopped g.S.Source.left g.S.Source.read_faults g.S.Source.beside_source _ _ _ (is_fault c.in_err-fill-in-None.field-0.0) HasPartOfLine EndsInLine
    c.args.buffer.now.pending c.reads.buffer.pending c.fill.new.self.pending c.in_err-fill-in-None.field-0.0
    c.reads.invariant.reads part c.in_err-fill-in-None.ensures.reads c.in_err-fill-in-None.ensures.same c.in_err-fill-in-None.ensures.errors (inr (refl, part)))

pub returns-in_err-line-clause-ended : goal.returns-in_err-line-clause-ended
returns-in_err-line-clause-ended g c =
    let p = err_from_is_err_and c.from_residual.result c.from_residual.ensures.1 in rw (p.1, p.2, c.in_err-line.ensures.0) tt

pub returns-in_err-fill-in-None-clause-ended : goal.returns-in_err-fill-in-None-clause-ended
returns-in_err-fill-in-None-clause-ended g c =
    let p = err_from_is_err_and c.from_residual-in_err-fill-in-None.result c.from_residual-in_err-fill-in-None.ensures.1 in
    rw (p.1, p.2) c.in_err-fill-in-None.ensures.ended

pub returns-in_err-fill-in-None-clause-body : goal.returns-in_err-fill-in-None-clause-body
returns-in_err-fill-in-None-clause-body g c = c.fill.ensures.body ∙ c.reads.invariant.body

pub returns-in-Some-clause-body : goal.returns-in-Some-clause-body
returns-in-Some-clause-body g c = c.skip.ensures.body ∙ c.reads.invariant.body

pub reads-preserved : goal.reads-preserved
reads-preserved g c =
    let found = rw c.in-None.is at c.in_ok-line.ensures in
    let part : HasPartOfLine c.reads.buffer.pending = subst HasPartOfLine c.pending.ensures.pending found in
    record {
      reads = grown g.S.Source.left g.S.Source.read_faults g.S.Source.beside_source _ _ _ false HasPartOfLine
          c.args.buffer.now.pending c.reads.buffer.pending c.fill.new.self.pending c.reads.invariant.reads part c.in_ok-fill-in-None.ensures.reads;
      body = c.fill.ensures.body ∙ c.reads.invariant.body;
    }
