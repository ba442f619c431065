use Rattle.std.proofs.Common.{sym, ◌∙◌, arith}
use Rattle.fedi_http.proofs.HeadLemmas.{settled-from, looked-end}
use Rattle.fedi_http.proofs.heads.Search.skip_line_ends.Goals as goal

pub returns-then-not-is_line_end-clause-settled : goal.returns-then-not-is_line_end-clause-settled
returns-then-not-is_line_end-clause-settled c =
    settled-from c.args.bytes.now c.ends.self.looked c.ends.self.start c.args.upto c.ends.invariant.known.front c.requires.inside
    (λ same low. sym c.is_line_end.ensures ∙ c.if-not-is_line_end.true)

pub ends-preserved : goal.ends-preserved
ends-preserved c = record {
  known = looked-end c.args.bytes.now c.ends.self.looked (omega arith) (rw c.ends-test.true at c.ends.invariant.known)
      (sym c.is_line_end.ensures ∙ c.if-not-is_line_end.false);
  within = omega arith;
}

pub returns-after-ends-clause-settled : goal.returns-after-ends-clause-settled
returns-after-ends-clause-settled c =
    settled-from c.args.bytes.now c.ends.self.looked c.ends.self.start c.args.upto c.ends.invariant.known.front c.requires.inside
    (λ same low. absurd (omega arith))
