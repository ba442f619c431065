use Rattle.std.proofs.Common.{ℕ, List, ap, sym, subst, rules}
use Rattle.std.specs.Prelude.{Some}
use Rattle.fedi_logged.proofs.Hosted.{hosted}
use Rattle.fedi_outside.specs.MemoryDisks.{MemoryDiskState}
use Rattle.fedi_logged.specs.Endings.{Scene}
use Rattle.fedi_demo.specs.Demonstrating.{HasStore}
use Rattle.fedi_demo.proofs.VisitLemmas.{session_visited}
use Rattle.fedi_demo.proofs.demonstrating.visit.Goals as goal

pub serve_connection-end-requires-clause-hosted : goal.serve_connection-end-requires-clause-hosted
serve_connection-end-requires-clause-hosted c =
    let opens = c.in-Ok.ensures.opened in
    hosted c.in-Ok.core.history opens.some opens.sound.legal

pub returns : goal.returns
returns c = λ history store.
    let connection = c.serve_connection-end.new.connection in
    let ends = c.serve_connection-end.ensures.ends in
    let whole = c.in_ok-disk.ensures in
    let text = c.bytes.result.now in
    let first : Scene = record {
      input = Some c.new-2.result.left;
      output = record { sent = Some c.new-3.result.sent; faults = c.new-3.result.plan.faults };
    } in
    let now : Scene = record {
      input = Some connection.input.left;
      output = record { sent = Some connection.out.sent; faults = connection.out.plan.faults };
    } in
    let visit = session_visited history c.args.requests.items text c.args.disk c.close_store.result _ _ _ ends.0 first now
    c.serve_connection-end.result.0 c.new-4.result store c.in-Ok.ensures.opened ends.1.holds (c.is_over.ensures (search rules))
    c.new-4.ensures ends.2 c.close_store.ensures.closed whole.1
    (ap (λ (l : List ℕ). Some l) c.new-2.ensures.left) (ap (λ (l : List ℕ). Some l) c.new-3.ensures.sent)
    (ap (λ (l : List ℕ). Some l) (sym c.bytes.ensures)) in (
      c.serve_connection-end.result.1.history,
      text,
      visit.0,
      subst (λ (d : MemoryDiskState). HasStore c.serve_connection-end.result.1.history d) (sym whole.0) visit.1,
      c.in_ok-extend_from_slice.ensures.items,
    )
