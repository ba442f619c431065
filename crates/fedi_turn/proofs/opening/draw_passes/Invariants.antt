use Rattle.std.proofs.Common.{◌≡◌, [], vec_len}
use Rattle.fedi_turn.specs.Record.{new_writer}
use Rattle.fedi_turn.specs.Turn.{IsReader, Each}
use Rattle.fedi_turn.proofs.opening.draw_passes.Given as goal

abbrev pub invariant-loop-number : goal.invariant-loop-number
invariant-loop-number g l =
    (l.writer.table_id ≡ l.fn.writer.table_id)
    × (l.writer.me ≡ (new_writer (g.V.Grows.list l.value) l.number, []))
    × (vec_len l.passes ≡ l.number)
    × Each (IsReader l.log.table_id (g.V.Grows.list l.value)) l.passes.items
