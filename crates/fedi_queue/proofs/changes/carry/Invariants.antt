use Rattle.std.proofs.Common.{◌≡◌, ◌++◌, ◌≤◌, drop, length, take}
use Rattle.fedi_queue.specs.Claims.{carried}
use Rattle.fedi_queue.proofs.changes.carry.Given as goal

abbrev pub invariant-loop-row : goal.invariant-loop-row
invariant-loop-row l =
    (l.next ≤ length l.rows) × (take l.row-index l.list ++ carried (drop l.next l.rows) (drop l.row-index l.list) ≡ carried l.rows l.initial.list)
