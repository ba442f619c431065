use Rattle.std.proofs.Common.{◌≡◌, ◌++◌, Ok, List, ℕ, false, subst}
use Rattle.std.proofs.lemmas.Result.{err_from_is_err_and}
use Rattle.fedi_http.specs.Arrivals.{HasHead}
use Rattle.fedi_http.specs.Heads.{LacksHead}
use Rattle.fedi_http.specs.Moves.{Reads, error_by}
use Rattle.fedi_http.specs.declared.heads.TheConstants.{HEAD_LIMIT}
use Rattle.fedi_http.specs.declared.requests.TheConstants.{MOST_FIELDS}
use Rattle.fedi_http.proofs.ArrivalLemmas.{behind_head, body_ended, body_told, head_unread, refusal_calm, refused_arrives}
use Rattle.fedi_http.proofs.arrivals.next_request.Goals as goal

pub returns-clause-reads : goal.returns-clause-reads
returns-clause-reads g c =
    let entry = c.args.buffer.now.pending in
    let mid = c.read_head.new.buffer.pending in
    let head = subst (λ (p : List ℕ). Reads g.S.Source.left g.S.Source.read_faults g.S.Source.beside_source c.args.source.now c.read_head.new.source false (LacksHead HEAD_LIMIT p) (λ m. mid ≡ p ++ m))
    c.drop_body.ensures.pending c.in_ok-head.ensures.reads in
    let has : HasHead HEAD_LIMIT MOST_FIELDS mid (Ok c.in_ok-request.request) c.in_ok-head.head.end = record {
      start = c.in_ok-head.head.start;
      head = c.in_ok-head.ensures.head;
      reads = rw c.pending.ensures.pending at c.in_ok-request.ensures.ok;
    } in
    rw c.and.ensures
    (body_told g.S.Source.left g.S.Source.read_faults g.S.Source.beside_source _ _ _ HEAD_LIMIT MOST_FIELDS entry c.skip.new.self.pending c.in_ok-request.request c.read_body.result
    c.read_body.new.buffer.body c.read_body.new.buffer.pending
    (behind_head g.S.Source.left g.S.Source.read_faults g.S.Source.beside_source _ _ HEAD_LIMIT MOST_FIELDS entry mid c.skip.new.self.pending c.in_ok-request.request c.in_ok-head.head.end head has c.skip.ensures.pending)
    c.read_body.ensures.reads)

pub returns-clause-ended : goal.returns-clause-ended
returns-clause-ended g c = rw c.and.ensures (body_ended c.in_ok-request.request c.read_body.result _ c.read_body.ensures.ended)

pub returns-in_err-request-clause-reads : goal.returns-in_err-request-clause-reads
returns-in_err-request-clause-reads g c =
    let entry = c.args.buffer.now.pending in
    let mid = c.read_head.new.buffer.pending in
    let p = err_from_is_err_and c.from_residual-in_err-request.result c.from_residual-in_err-request.ensures.1 in
    let head = subst (λ (p : List ℕ). Reads g.S.Source.left g.S.Source.read_faults g.S.Source.beside_source c.args.source.now c.read_head.new.source false (LacksHead HEAD_LIMIT p) (λ m. mid ≡ p ++ m))
    c.drop_body.ensures.pending c.in_ok-head.ensures.reads in
    rw (p.1, p.2)
    (head_unread g.S.Source.left g.S.Source.read_faults g.S.Source.beside_source _ _ HEAD_LIMIT MOST_FIELDS entry mid (error_by c.in_err-request.field-0.0) c.read_head.new.buffer.body mid head
    (refusal_calm c.in_err-request.field-0.0)
    (refused_arrives HEAD_LIMIT MOST_FIELDS mid c.in_err-request.field-0.0 c.in_ok-head.head.end c.read_head.new.buffer.body mid
    (λ other. record {
      start = c.in_ok-head.head.start;
      head = c.in_ok-head.ensures.head;
      reads = rw c.pending.ensures.pending at (c.in_err-request.ensures.refused other);
    })
    (λ wanting.
    let served = rw c.pending.ensures.pending at (c.in_err-request.ensures.memory wanting) in (
      served.0,
      c.in_ok-head.head.end,
      record {
        start = c.in_ok-head.head.start;
        head = c.in_ok-head.ensures.head;
        reads = served.1;
      },
    ))))
