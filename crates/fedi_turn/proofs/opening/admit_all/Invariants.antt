use Rattle.std.proofs.Common.{◌≡◌, ◌<◌, vec_len}
use Rattle.fedi_turn.specs.Turn.{AreSame, Each, HasGate}
use Rattle.fedi_turn.proofs.opening.admit_all.Given as goal

abbrev pub invariant-loop-i : goal.invariant-loop-i
invariant-loop-i g l =
    (l.seat.table_id ≡ l.fn.seat.table_id)
    × (l.seat.me ≡ l.fn.seat.me)
    × (vec_len l.passes ≡ vec_len l.fn.passes)
    × Each (λ k p. k < l.i → HasGate l.fn.seat.table_id l.fn.seat.me.0 p) l.passes.items
    × AreSame l.fn.passes.items l.passes.items
