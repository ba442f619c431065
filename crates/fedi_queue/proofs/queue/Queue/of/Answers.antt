use Rattle.std.proofs.Common.{◌≡◌, ◌++◌, ap, ◌∙◌, List, None, refl}
use Rattle.std.specs.List.{list_all}
use Rattle.fedi_effects.specs.Holdings.{Holding}
use Rattle.fedi_queue.specs.declared.rows.QueueRow.{QueueRow}
use Rattle.fedi_queue.specs.Claims.{is_few}
use Rattle.fedi_queue.specs.Rows.{is_reached, rows_of}
use Rattle.fedi_queue.proofs.Held.{all_rows, begun, sound_made}
use Rattle.fedi_queue.proofs.RowsOf.{rows_few}
use Rattle.fedi_queue.proofs.queue.Queue.of.Goals as goal

pub new-requires-2 : goal.new-requires-2
new-requires-2 c = let t = c.args.facts.now.town in ap (λ (rows : List QueueRow). list_all is_few rows) c.in_ok-rows.ensures ∙ rows_few t (is_reached t None) 0 t.acts

pub invariant_of-result : goal.invariant_of-result
invariant_of-result c =
    sound_made _ _ c.args.facts.now.history c.args.facts.now.town _ _ (ap (λ (h : Holding). h.history) c.of.ensures) c.new.ensures c.show_town.ensures c.in_ok-rows.ensures c.new-2.ensures

pub returns : goal.returns
returns c =
    let history : c.of.result.value.history ++ c.new.result ≡ c.args.facts.now.history = begun _ _ _ (ap (λ (h : Holding). h.history) c.of.ensures) c.new.ensures in
    let rows : c.new-2.result.rows ≡ rows_of c.args.facts.now.town = c.new-2.ensures ∙ c.in_ok-rows.ensures ∙ all_rows c.args.facts.now.town in
    rw (history, rows) refl
