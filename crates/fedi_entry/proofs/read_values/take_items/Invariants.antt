use Rattle.std.proofs.Common.{◌≡◌, ◌-◌}
use Rattle.fedi_entry.specs.Reading.{items_at}
use Rattle.fedi_entry.proofs.Loop.{with_front}
use Rattle.fedi_entry.proofs.read_values.take_items.Given as goal

abbrev pub invariant-loop : goal.invariant-loop
invariant-loop g l = with_front l.items.items (items_at g.T.Decode.at (l.count - l.counter) l.reader) ≡ items_at g.T.Decode.at l.count l.initial.reader
