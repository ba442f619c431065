use Rattle.std.proofs.Common.{length}
use Rattle.std.specs.Prelude.{filter}
use Rattle.fedi_objects.specs.declared.kind.State.TheVariants.{Undone}
use Rattle.fedi_town.specs.Effects.{in_state, is_standing_activity}
use Rattle.fedi_register.specs.Registers.{has_own_id, own_mark}
use Rattle.fedi_register.proofs.Edited.{IsEditing}
use Rattle.fedi_register.proofs.applying.undo.Given as goal

abbrev pub invariant-loop-place : goal.invariant-loop-place
invariant-loop-place l = IsEditing (is_standing_activity l.activity) (in_state Undone) has_own_id (own_mark l.seed) l.ids.marks l.fn.acts l.acts

abbrev pub decreases-loop-place : goal.decreases-loop-place
decreases-loop-place l = length (filter (is_standing_activity l.activity) l.acts)
