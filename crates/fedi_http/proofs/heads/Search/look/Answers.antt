use Rattle.std.proofs.Common.{◌+◌, sym, ◌∙◌, arith}
use Rattle.fedi_http.specs.Heads.{IsLookedAt}
use Rattle.fedi_http.specs.declared.heads.TheConstants.{HEAD_LIMIT}
use Rattle.fedi_http.proofs.HeadLemmas.{is_head, looked-on, looked-line, start-low}
use Rattle.fedi_http.proofs.heads.Search.look.Goals as goal

pub lines-init : goal.lines-init
lines-init c = record {
  known = c.skip_line_ends.ensures.known;
  within = c.skip_line_ends.ensures.within;
  low = start-low c.args.bytes.now c.skip_line_ends.new.self.looked c.skip_line_ends.new.self.start c.skip_line_ends.ensures.known;
  settled = c.skip_line_ends.ensures.settled;
}

pub returns-then-ends_in_empty_line-clause-found : goal.returns-then-ends_in_empty_line-clause-found
returns-then-ends_in_empty_line-clause-found c =
    let l = c.lines.invariant in
    let on : IsLookedAt c.args.bytes.now c.in-Some.at c.lines.self.start =
    looked-on c.args.bytes.now c.lines.self.looked c.lines.self.start c.min-upto.result c.in-Some.at l.known l.settled c.in-Some.ensures.0 (omega (arith, c.in-Some.ensures.1)) (omega arith) c.in-Some.ensures.2 in
    is_head HEAD_LIMIT c.args.bytes.now c.in-Some.at c.lines.self.start (omega (arith, c.in-Some.ensures.1)) (omega (arith, c.in-Some.ensures.1)) on.none
    (sym (l.settled (c.in-Some.at + 1) (omega (arith, c.in-Some.ensures.0)) (omega (arith, c.in-Some.ensures.1))))
    (sym c.ends_in_empty_line.ensures ∙ c.if-ends_in_empty_line.true)

pub lines-preserved : goal.lines-preserved
lines-preserved c =
    let l = c.lines.invariant in
    let on : IsLookedAt c.args.bytes.now c.in-Some.at c.lines.self.start =
    looked-on c.args.bytes.now c.lines.self.looked c.lines.self.start c.min-upto.result c.in-Some.at l.known l.settled c.in-Some.ensures.0 (omega (arith, c.in-Some.ensures.1)) (omega arith) c.in-Some.ensures.2 in
    record {
      known = looked-line c.args.bytes.now c.in-Some.at c.lines.self.start (omega (arith, c.in-Some.ensures.1)) on
          (sym (l.settled (c.in-Some.at + 1) (omega (arith, c.in-Some.ensures.0)) (omega (arith, c.in-Some.ensures.1))))
          (sym c.ends_in_empty_line.ensures ∙ c.if-ends_in_empty_line.false);
      within = omega (arith, c.in-Some.ensures.1);
      low = omega (arith, c.in-Some.ensures.0);
      settled = λ n low high. l.settled n (omega (arith, c.in-Some.ensures.0)) high;
    }

pub returns-clause-none : goal.returns-clause-none
returns-clause-none c =
    let l = c.lines.invariant in
    looked-on c.args.bytes.now c.lines.self.looked c.lines.self.start c.min-upto.result c.min-upto.result l.known l.settled l.within (omega arith) (omega arith) c.in_default.ensures
