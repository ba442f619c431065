use Rattle.std.proofs.Common.{◌≡◌, ◌++◌, take}
use Rattle.std.specs.Prelude.{option_copied}
use Rattle.fedi_queue.specs.Rows.{is_reached, rows_to}
use Rattle.fedi_queue.proofs.making.add_rows_to.Given as goal

abbrev pub invariant-loop-place : goal.invariant-loop-place
invariant-loop-place l =
    l.rows.items
    ≡ l.fn.rows.items
    ++ rows_to l.facts.town (is_reached l.facts.town (option_copied l.new)) l.sending.activity l.sending.id.now l.sending.moment 0 (take l.place l.recipients)
