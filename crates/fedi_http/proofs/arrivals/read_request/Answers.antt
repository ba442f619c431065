use Rattle.std.proofs.Common.{sym, subst}
use Rattle.std.specs.Io.KnownBytes.{IsAtEnd}
use Rattle.fedi_http.specs.Arrivals.{OnInputEnd}
use Rattle.fedi_http.specs.declared.arrivals.Arrived.{Arrived}
use Rattle.fedi_http.specs.declared.arrivals.Arrived.TheVariants.{Request}
use Rattle.fedi_http.specs.declared.heads.TheConstants.{HEAD_LIMIT}
use Rattle.fedi_http.specs.declared.requests.TheConstants.{MOST_FIELDS}
use Rattle.fedi_http.proofs.ArrivalLemmas.{error_arrives, error_ended, told_arrival}
use Rattle.fedi_http.proofs.arrivals.read_request.Goals as goal

pub returns-in-Ok-clause-told : goal.returns-in-Ok-clause-told
returns-in-Ok-clause-told g c =
    told_arrival g.S.Source.left g.S.Source.read_faults g.S.Source.beside_source _ _ _ _ HEAD_LIMIT MOST_FIELDS c.args.buffer.now.pending (Request c.in-Ok.request)
    c.next_request.new.buffer.body c.next_request.new.buffer.pending c.in-Ok.ensures.reads tt

pub returns-in-Err-clause-reads : goal.returns-in-Err-clause-reads
returns-in-Err-clause-reads g c =
    error_arrives g.S.Source.left g.S.Source.read_faults g.S.Source.beside_source _ _ HEAD_LIMIT MOST_FIELDS c.args.buffer.now.pending c.in-Err.error c.from.result
    c.next_request.new.buffer.body c.next_request.new.buffer.pending c.from.ensures c.in-Err.ensures.reads

pub returns-in-Err-clause-told : goal.returns-in-Err-clause-told
returns-in-Err-clause-told g c =
    told_arrival g.S.Source.left g.S.Source.read_faults g.S.Source.beside_source _ _ _ _ HEAD_LIMIT MOST_FIELDS c.args.buffer.now.pending c.from.result
    c.next_request.new.buffer.body c.next_request.new.buffer.pending
    (error_arrives g.S.Source.left g.S.Source.read_faults g.S.Source.beside_source _ _ HEAD_LIMIT MOST_FIELDS c.args.buffer.now.pending c.in-Err.error c.from.result
    c.next_request.new.buffer.body c.next_request.new.buffer.pending c.from.ensures c.in-Err.ensures.reads)
    (subst (λ (a : Arrived). OnInputEnd a (IsAtEnd (g.S.Source.left c.next_request.new.source))) (sym c.from.ensures) (error_ended c.in-Err.error _ c.in-Err.ensures.ended))
