use Rattle.std.proofs.Common.{sym, ap, ◌∙◌}
use Rattle.std.specs.Prelude.{not}
use Rattle.fedi_pins.specs.Held.{item_at}
use Rattle.fedi_pins.proofs.Positions.{found_remove, not_by_a_remove}
use Rattle.fedi_pins.proofs.held.lists_item.Goals as goal

pub returns-else-not-is_remove-clause-value : goal.returns-else-not-is_remove-clause-value
returns-else-not-is_remove-clause-value g c =
    let t = c.args.facts.now.town in
    let remove = sym c.is_remove.ensures ∙ c.if-not-is_remove.false in
    ap (λ b. not b) c.if-not-is_remove.false ∙ sym (not_by_a_remove t c.args.held.now (item_at t c.args.listing c.args.place) c.args.place c.requires.adds
    (found_remove t c.args.place c.shown-act.result.now (sym c.shown-act.ensures.act) (rw c.kind.ensures at remove)))
