use Rattle.std.proofs.Common.{length, refl}
use denote.Param.Send.{sendable}
use Rattle.fedi_index.proofs.Sent.{shelf_send}
use Rattle.fedi_logged.proofs.Hosted.{hosted}
use Rattle.fedi_program.proofs.RunLemmas.{doors_safe, doors_status}
use Rattle.fedi_program.proofs.StoreLemmas.{over, serves_doors}
use Rattle.fedi_program.proofs.serving.serve.Goals as goal

pub serve_core-end-requires-send-S : goal.serve_core-end-requires-send-S
serve_core-end-requires-send-S g c κs = search (shelf_send, sendable)

pub serve_core-end-requires-clause-hosted : goal.serve_core-end-requires-clause-hosted
serve_core-end-requires-clause-hosted g c κs lives =
    let opens = c.in-Ok.ensures.opened in
    hosted c.in-Ok.core.history opens.some opens.sound.legal

pub returns-in-Ok : goal.returns-in-Ok
returns-in-Ok g c =
    let met = g.met.D.Disk g.world.𝓛 g.world.𝓜 g.world.𝓡 ((λ s x. x), (λ x. x), (λ x. x), λ x. x) in
    let core = c.in-Ok.core in
    let last = c.serve_core-end.result.core.keeper.disk in
    let closed = rw c.close_store.ensures.disk at c.close_store.ensures.closed in
    let served = serves_doors _ _ _ _ _ g.W.Door g.K.Link _ _ _ _
    (over g.D.Disk met.only_now c.args.disk core.keeper.disk last _ _
    (length core.keeper.gates.items) c.in-Ok.ensures.opened refl c.in-Ok.ensures.untouched
    c.in-Ok.ensures.leaves closed) c.serve_core-end.ensures.served
    (c.serve_core-end.result.end, c.status_after.ensures, c.serve_core-end.ensures.ends) in
    record {
      served = rw c.close_store.ensures.disk served;
      safe = rw c.close_store.ensures.disk
          (doors_safe g.W.Door g.K.Link _ _ _ _ _ _ served);
      statuses = doors_status g.W.Door g.K.Link _ _ _ _ _ _ served;
      waiting = c.serve_core-end.ensures.waiting;
      second = refl;
    }
