-- There is a row for each delivery that has not ended.
use Rattle.std.proofs.Common.{ℕ, [], ◌∷◌, refl, filter, ◌≡◌, List, length, map, sym, ap, ◌∙◌}
use Rattle.std.proofs.lemmas.List.{length-map}
use Rattle.fedi_objects.specs.declared.entry.Entry.{Entry}
use Rattle.fedi_queue.specs.declared.rows.QueueRow.{QueueRow}
use Rattle.fedi_queue.specs.Claims.{release}
use Rattle.fedi_queue.specs.Rows.{delivery_in, is_waiting, rows_of}
use Rattle.fedi_queue.proofs.Queued.{rows_are_queued}
use Rattle.fedi_report.specs.Exports.{delivery_row, queued_row}
use Rattle.fedi_report.specs.Reports.{waiting}
use Rattle.fedi_town.specs.declared.act.Act.{Act}
use Rattle.fedi_town.specs.Histories.{town}
use Rattle.fedi_town.specs.Legal.{IsLegal}
use Rattle.fedi_town.specs.Queues.{Delivery, queue}

pub row_for_each : (history : List Entry) (rows : List QueueRow) → IsLegal history → map release rows ≡ rows_of (town history) → length rows ≡ waiting (town history)
row_for_each history rows legal same =
    sym (length-map rows release)
    ∙ ap (λ (xs : List QueueRow). length xs) same
    ∙ sym (length-map (rows_of (town history)) (delivery_in (town history).acts))
    ∙ ap (λ (ds : List Delivery). length ds) (rows_are_queued history legal)

-- a row does not say whether it is claimed
released_rows : (acts : List Act) (rows : List QueueRow) → map (queued_row acts) rows ≡ map delivery_row (map (delivery_in acts) (map release rows))
released_rows acts [] = refl
released_rows acts (row ∷ rows) = ap (λ (told : List (List (List ℕ))). queued_row acts row ∷ told) (released_rows acts rows)

-- the rows describe the deliveries that have not ended
pub queue_rows : (history : List Entry) (rows : List QueueRow) → IsLegal history → map release rows ≡ rows_of (town history)
    → map (queued_row (town history).acts) rows ≡ map delivery_row (filter (λ (d : Delivery). is_waiting d.progress) (queue (town history)))
queue_rows history rows legal same =
    released_rows (town history).acts rows
    ∙ ap (λ (xs : List QueueRow). map delivery_row (map (delivery_in (town history).acts) xs)) same
    ∙ ap (λ (ds : List Delivery). map delivery_row ds) (rows_are_queued history legal)
