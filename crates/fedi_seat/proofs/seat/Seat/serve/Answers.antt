use Rattle.std.proofs.Common.{◌∙◌, Ok, Some, ap, subst}
use Rattle.fedi_http.specs.declared.arrivals.Arrived.TheVariants as arrivals
use Rattle.fedi_seat.specs.Serving.{Replies}
use Rattle.fedi_seat.proofs.Serving.{arrived, cut_short, none_is_one, refusal_sent}
use Rattle.fedi_seat.proofs.seat.Seat.serve.Goals as goal

pub returns-in-Request-clause-serves : goal.returns-in-Request-clause-serves
returns-in-Request-clause-serves g c =
    let text = c.new-source.ensures ∙ c.in_ok-to_vec.ensures.items_if_clones_equal (λ x y same. same) in
    let body = c.read_request.new.buffer.body in (
      Ok c.in-Request.request,
      body,
      arrived c.new-buffer.result (Some c.new-source.result) (Some c.read_request.new.source) c.args.text.now c.read_request.new.buffer.pending body
          (arrivals.Request c.in-Request.request) c.new-buffer.ensures (ap Some text) c.in-Request.ensures.told tt,
      subst (λ b. Replies g.P.Keeper c.args.moment (Ok c.in-Request.request) b c.in_ok-answer-in-Request.field-0 c.args.self.now c.answer.new.self)
          c.body.ensures.body c.in_ok-answer-in-Request.ensures.served,
    )

pub returns-in-Refused-clause-serves : goal.returns-in-Refused-clause-serves
returns-in-Refused-clause-serves g c =
    let text = c.new-source.ensures ∙ c.in_ok-to_vec.ensures.items_if_clones_equal (λ x y same. same) in
    let here = arrived c.new-buffer.result (Some c.new-source.result) (Some c.read_request.new.source) c.args.text.now c.read_request.new.buffer.pending c.read_request.new.buffer.body
    (arrivals.Refused c.in-Refused.refusal) c.new-buffer.ensures (ap Some text) c.in-Refused.ensures.told tt in
    refusal_sent g.P.Keeper c.args.moment c.args.text.now c.in-Refused.refusal c.in_ok-write_reply-in-Refused.field-0
    c.refusal_reply.result c.args.self.now here.1 c.refusal_reply.ensures c.write_reply.ensures.short
    c.in_ok-write_reply-in-Refused.ensures.status c.in_ok-write_reply-in-Refused.ensures.text

pub returns-in-End-clause-cut : goal.returns-in-End-clause-cut
returns-in-End-clause-cut g c = λ is.
    let text = c.new-source.ensures ∙ c.in_ok-to_vec.ensures.items_if_clones_equal (λ x y same. same) in
    cut_short c.args.text.now c.read_request.new.buffer.body c.read_request.result c.in-End.is
    (arrived c.new-buffer.result (Some c.new-source.result) (Some c.read_request.new.source) c.args.text.now c.read_request.new.buffer.pending c.read_request.new.buffer.body
    c.read_request.result c.new-buffer.ensures (ap Some text) c.read_request.ensures.told)

pub unreachable-requires : goal.unreachable-requires
unreachable-requires g c =
    none_is_one c.in-ReadFault.ensures.reads.faults
