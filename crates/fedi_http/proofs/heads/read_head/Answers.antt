use Rattle.std.proofs.Common.{false, refl, arith, ◌∙◌}
use Rattle.fedi_http.proofs.HeadLemmas.{after_calm, after_ended, lacks_head, looked-grown, looked-nil, no_head_after, too_long}
use Rattle.fedi_http.proofs.ReadLemmas.{grown, pending_start}
use Rattle.fedi_http.specs.Heads.{IsLookedAt, LacksHead}
use Rattle.fedi_http.specs.Moves.{is_fault}
use Rattle.fedi_http.specs.declared.heads.TheConstants.{HEAD_LIMIT}
use Rattle.fedi_http.proofs.heads.read_head.Goals as goal

pub reads-init : goal.reads-init
reads-init g c = record {
  looked = looked-nil c.args.buffer.now.pending;
  within = omega arith;
  reads = pending_start g.S.Source.left g.S.Source.read_faults g.S.Source.beside_source c.args.source.now (LacksHead HEAD_LIMIT) c.args.buffer.now.pending;
  body = refl;
}

pub returns-then-search-eq-HEAD_LIMIT-clause-none : goal.returns-then-search-eq-HEAD_LIMIT-clause-none
returns-then-search-eq-HEAD_LIMIT-clause-none g c =
    let at = c.in_default.ensures in (
      refl,
      too_long HEAD_LIMIT c.reads.buffer.pending c.look.new.self.looked c.look.new.self.start (rw c.pending.ensures.pending at at.none)
          (rw c.pending.ensures.pending at at.all) c.if-search-eq-HEAD_LIMIT.true,
    )

pub returns-in-Err-clause-reads : goal.returns-in-Err-clause-reads
returns-in-Err-clause-reads g c =
    let at = c.in_default.ensures in
    let lacks : LacksHead HEAD_LIMIT c.reads.buffer.pending =
    lacks_head HEAD_LIMIT c.reads.buffer.pending c.look.new.self.looked c.look.new.self.start (rw c.pending.ensures.pending at at.none)
    (rw c.pending.ensures.pending at at.all) c.if-search-eq-HEAD_LIMIT.false in
    rw (c.after.ensures, after_calm c.in-Err.error c.look.new.self.looked)
    (grown g.S.Source.left g.S.Source.read_faults g.S.Source.beside_source _ _ _ (is_fault c.in-Err.error) (LacksHead HEAD_LIMIT)
    c.args.buffer.now.pending c.reads.buffer.pending c.fill.new.self.pending c.reads.invariant.reads lacks c.in-Err.ensures.reads)

pub returns-in-Err-clause-none : goal.returns-in-Err-clause-none
returns-in-Err-clause-none g c =
    let at = c.in_default.ensures in
    let all = rw c.pending.ensures.pending at at.all in
    let lacks : LacksHead HEAD_LIMIT c.reads.buffer.pending =
    lacks_head HEAD_LIMIT c.reads.buffer.pending c.look.new.self.looked c.look.new.self.start (rw c.pending.ensures.pending at at.none)
    all c.if-search-eq-HEAD_LIMIT.false in
    rw (c.after.ensures, c.in-Err.ensures.same)
    (no_head_after HEAD_LIMIT c.look.new.self.looked c.reads.buffer.pending c.in-Err.error c.in-Err.ensures.errors all lacks)

pub returns-in-Err-clause-ended : goal.returns-in-Err-clause-ended
returns-in-Err-clause-ended g c = rw c.after.ensures (after_ended c.in-Err.error c.look.new.self.looked _ c.in-Err.ensures.ended)

pub reads-preserved : goal.reads-preserved
reads-preserved g c =
    let at = c.in_default.ensures in
    let looked : IsLookedAt c.reads.buffer.pending c.look.new.self.looked c.look.new.self.start = rw c.pending.ensures.pending at at.none in
    let all = rw c.pending.ensures.pending at at.all in
    let lacks : LacksHead HEAD_LIMIT c.reads.buffer.pending =
    lacks_head HEAD_LIMIT c.reads.buffer.pending c.look.new.self.looked c.look.new.self.start looked all c.if-search-eq-HEAD_LIMIT.false in
    record {
      looked = looked-grown c.reads.buffer.pending c.in_default-fill.ensures.reads.more c.fill.new.self.pending c.look.new.self.looked c.look.new.self.start
          c.in_default-fill.ensures.reads.holds looked;
      within = omega (arith, all);
      reads = grown g.S.Source.left g.S.Source.read_faults g.S.Source.beside_source _ _ _ false (LacksHead HEAD_LIMIT)
          c.args.buffer.now.pending c.reads.buffer.pending c.fill.new.self.pending c.reads.invariant.reads lacks c.in_default-fill.ensures.reads;
      body = c.fill.ensures.body ∙ c.reads.invariant.body;
    }
