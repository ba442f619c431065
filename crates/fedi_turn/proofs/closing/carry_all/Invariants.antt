use Rattle.std.proofs.Common.{◌≡◌, All, vec_len}
use Rattle.fedi_turn.specs.Turn.{IsIdle}
use Rattle.fedi_turn.proofs.TurnFacts.{HasCarried}
use Rattle.fedi_turn.proofs.closing.carry_all.Given as goal

abbrev pub invariant-loop-pass : goal.invariant-loop-pass
invariant-loop-pass g l =
    (l.seat.table_id ≡ l.lock.gate.shared.table_id) × (l.writer.table_id ≡ l.fn.writer.table_id)
    × All (IsIdle g.V.Grows l.lock) l.passes.items
    × HasCarried l.fn.passes.items l.passes.items l.fn.writer.me l.writer.me

abbrev pub decreases-loop-pass : goal.decreases-loop-pass
decreases-loop-pass g l = vec_len l.passes
