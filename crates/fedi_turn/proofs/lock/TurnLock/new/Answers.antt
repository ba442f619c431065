use Rattle.std.proofs.Common.{◌∷◌, [], ◌<◌, ◌∙◌, length, get_or, sym, ap, arith}
use Rattle.fedi_turn.specs.Gate.{writer_in, facts_of, outside}
use Rattle.fedi_turn.proofs.TurnFacts.{fresh}
use Rattle.fedi_turn.proofs.lock.TurnLock.new.Goals as goal

pub returns-in-Ok-open_gate-clause-passes : goal.returns-in-Ok-open_gate-clause-passes
returns-in-Ok-open_gate-clause-passes g c =
    let start = ap (λ k. (writer_in k.writer.views).start) c.in-Ok-open_gate.ensures.key ∙ ap (λ vs. (writer_in vs).start) c.into_badge.ensures.2
    ∙ ap (λ m. (writer_in (m.0 ∷ [])).start) c.in-Ok.ensures.writer in
    let known = c.in-Ok-open_gate.ensures.seat ∙ ap (λ k. outside (facts_of g.V.Grows.list g.V.Grows.base k)) (sym c.in-Ok-open_gate.ensures.key) in
    let now = c.admit_all.new.passes.ok.0 in let before = c.in-Ok.passes.ok.0 in let same = c.admit_all.ensures.len in
    λ k d h.
    let near : k < length c.in-Ok.passes.items = omega arith in
    fresh c.in-Ok-open_gate.gate.shared.table_id c.in-Ok.log.shared.table_id (facts_of g.V.Grows.list g.V.Grows.base c.in-Ok-open_gate.gate.shared.key.value)
    c.in-Ok-open_gate.seat (get_or c.admit_all.new.passes.items k d) (get_or c.in-Ok.passes.items k d) k (g.V.Grows.list c.args.value)
    c.in-Ok-open_gate.ensures.table known (c.admit_all.ensures.gate k d h) (c.admit_all.ensures.same k d h d) (c.in-Ok.ensures.each k d near) start
