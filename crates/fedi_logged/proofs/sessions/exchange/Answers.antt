use Rattle.fedi_logged.specs.Endings.{scene_on}
use Rattle.fedi_logged.proofs.SessionLemmas.{counted_on, counts_are, cut_steps, end_steps, fault_steps, no_memory_steps, now_of, refused_steps, request_steps}
use Rattle.fedi_logged.proofs.sessions.exchange.Goals as goal

pub returns-in-Request-clause-steps : goal.returns-in-Request-clause-steps
returns-in-Request-clause-steps g c =
    request_steps _ _ _ _ (scene_on g.H.Channel.left g.H.Channel.sent g.H.Channel.write_faults c.receive.new.self) _ c.args.served _ c.receive.new.buffer.pending
    c.in-Request.request c.receive.new.buffer.body _ c.is_last-closing.result c.answer-text.result _
    c.in-Request.ensures.output c.send_reply.ensures.input
    c.in-Request.ensures.told c.is_last-closing.ensures (now_of _ c.now.result _ c.now.ensures c.clamped-moment.ensures)
    (rw c.body.ensures.body at c.answer-text.ensures.text) c.answer-text.ensures.lacking c.send_reply.ensures.sent

pub returns-in-Refused-clause-steps : goal.returns-in-Refused-clause-steps
returns-in-Refused-clause-steps g c =
    refused_steps _ _ _ (scene_on g.H.Channel.left g.H.Channel.sent g.H.Channel.write_faults c.receive.new.self) _ c.args.served _ c.receive.new.buffer.body c.receive.new.buffer.pending
    c.in-Refused.refusal c.clamped-moment-in-Refused.result c.refusal_text-text.result _
    c.in-Refused.ensures.output c.send_reply-in-Refused.ensures.input
    c.in-Refused.ensures.told (now_of _ c.now-in-Refused.result _ c.now-in-Refused.ensures c.clamped-moment-in-Refused.ensures)
    c.refusal_text-text.ensures c.send_reply-in-Refused.ensures.sent

pub returns-in-End-clause-steps : goal.returns-in-End-clause-steps
returns-in-End-clause-steps g c =
    end_steps _ _ _ (scene_on g.H.Channel.left g.H.Channel.sent g.H.Channel.write_faults c.receive.new.self) c.args.served _ c.receive.new.buffer.body c.receive.new.buffer.pending c.in-End.ensures.told
    c.in-End.ensures.output

pub returns-in-CutShort-clause-steps : goal.returns-in-CutShort-clause-steps
returns-in-CutShort-clause-steps g c =
    cut_steps _ _ _ (scene_on g.H.Channel.left g.H.Channel.sent g.H.Channel.write_faults c.receive.new.self) c.args.served _ c.receive.new.buffer.body c.receive.new.buffer.pending c.in-CutShort.ensures.told
    c.in-CutShort.ensures.output

pub returns-in-ReadFault-clause-steps : goal.returns-in-ReadFault-clause-steps
returns-in-ReadFault-clause-steps g c =
    fault_steps _ _ _ _ c.args.served c.args.buffer.now.pending c.in-ReadFault.ensures.takes.more c.receive.new.buffer.pending
    c.in-ReadFault.ensures.takes.taken c.in-ReadFault.ensures.takes.holds
    c.in-ReadFault.ensures.output

pub returns-in-Memory-clause-steps : goal.returns-in-Memory-clause-steps
returns-in-Memory-clause-steps g c =
    no_memory_steps _ _ _ (scene_on g.H.Channel.left g.H.Channel.sent g.H.Channel.write_faults c.receive.new.self) _ c.args.served _ _ _
    c.in-Memory.ensures.output c.send_reply-in-Memory.ensures.sent

pub returns-in-Request-clause-counted : goal.returns-in-Request-clause-counted
returns-in-Request-clause-counted g c =
    counted_on _ _ _ c.send_reply.result
    (counts_are _ _ _ _ c.in-Request.ensures.cause c.in-Request.ensures.output)
    c.send_reply.ensures.counted

pub returns-in-Refused-clause-counted : goal.returns-in-Refused-clause-counted
returns-in-Refused-clause-counted g c =
    counted_on _ _ _ c.send_reply-in-Refused.result
    (counts_are _ _ _ _ c.in-Refused.ensures.cause c.in-Refused.ensures.output)
    c.send_reply-in-Refused.ensures.counted

pub returns-in-Memory-clause-counted : goal.returns-in-Memory-clause-counted
returns-in-Memory-clause-counted g c =
    counted_on _ _ _ c.send_reply-in-Memory.result
    (counts_are _ _ _ _ c.in-Memory.ensures.cause c.in-Memory.ensures.output)
    c.send_reply-in-Memory.ensures.counted

pub returns-in-End-clause-counted : goal.returns-in-End-clause-counted
returns-in-End-clause-counted g c =
    counts_are _ _ _ _ c.in-End.ensures.cause c.in-End.ensures.output

pub returns-in-CutShort-clause-counted : goal.returns-in-CutShort-clause-counted
returns-in-CutShort-clause-counted g c =
    counts_are _ _ _ _ c.in-CutShort.ensures.cause c.in-CutShort.ensures.output

pub returns-in-ReadFault-clause-counted : goal.returns-in-ReadFault-clause-counted
returns-in-ReadFault-clause-counted g c =
    counts_are _ _ _ _ c.in-ReadFault.ensures.cause c.in-ReadFault.ensures.output
