use Rattle.std.proofs.Common.{◌+◌, ◌-◌, ◌≤◌, ◌++◌, ◌∙◌, List, ℕ, length, take, drop, ap, sym, arith, length-take}
use Rattle.std.proofs.lemmas.List.{take-take, with_items_is}
use Rattle.fedi_http.specs.Moves.{Held}
use Rattle.fedi_http.proofs.PartLemmas.{part-drop}
use Rattle.fedi_http.proofs.buffer.Buffer.join.Goals as goal

pub returns-clause-body : goal.returns-clause-body
returns-clause-body c =
    let part = c.self.inside in
    let pending = ap (λ (h : Held). h.pending) c.self.view_is in
    let few : c.args.count ≤ part.count = omega (arith, c.requires, ap length pending, length-take part.count (drop part.start part.bytes.items)) in
    ap (take (part.held + c.args.count)) (with_items_is part.bytes c.move_down.new.bytes (omega (arith, c.move_down.auto.bytes, c.deref_mut.ensures.len)))
    ∙ c.move_down.ensures.joined
    ∙ ap (λ (l : List ℕ). take part.held l ++ take c.args.count (drop part.start l)) c.deref_mut.ensures.value
    ∙ ap (λ (l : List ℕ). l ++ take c.args.count (drop part.start part.bytes.items)) (ap (λ (h : Held). h.body) c.self.view_is)
    ∙ ap (λ (l : List ℕ). c.args.self.now.body ++ l) (sym (take-take c.args.count part.count (drop part.start part.bytes.items) few) ∙ ap (take c.args.count) pending)

pub returns-clause-pending : goal.returns-clause-pending
returns-clause-pending c =
    let part = c.self.inside in
    let view = ap (λ (h : Held). h.pending) c.self.view_is in
    let few : c.args.count ≤ part.count = omega (arith, c.requires, ap length view, length-take part.count (drop part.start part.bytes.items)) in
    ap (λ (l : List ℕ). take (part.count - c.args.count) (drop (part.start + c.args.count) l))
    (with_items_is part.bytes c.move_down.new.bytes (omega (arith, c.move_down.auto.bytes, c.deref_mut.ensures.len)))
    ∙ ap (take (part.count - c.args.count)) (c.move_down.ensures.behind)
    ∙ ap (λ (l : List ℕ). take (part.count - c.args.count) (drop (part.start + c.args.count) l)) c.deref_mut.ensures.value
    ∙ part-drop part.bytes.items part.start part.count c.args.count few ∙ ap (drop c.args.count) view
