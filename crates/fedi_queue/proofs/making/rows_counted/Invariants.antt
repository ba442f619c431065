use Rattle.std.proofs.Common.{◌≡◌, take}
use Rattle.std.specs.Prelude.{option_copied}
use Rattle.fedi_queue.specs.Rows.{is_reached, rows_from}
use Rattle.fedi_queue.proofs.making.rows_counted.Given as goal

abbrev pub invariant-loop-place : goal.invariant-loop-place
invariant-loop-place g l =
    l.rows.items ≡ rows_from l.facts.town (is_reached l.facts.town (option_copied l.new)) 0 (take l.place l.facts.town.acts)
