use Rattle.std.proofs.Common.{length}
use Rattle.std.specs.Prelude.{filter}
use Rattle.fedi_town.specs.Effects.{in_state}
use Rattle.fedi_register.specs.Changes.{is_unended}
use Rattle.fedi_register.specs.Registers.{relates, relation_mark}
use Rattle.fedi_register.proofs.Edited.{IsEditing}
use Rattle.fedi_register.proofs.applying.end_follows.Given as goal

abbrev pub invariant-loop-place : goal.invariant-loop-place
invariant-loop-place l = IsEditing (is_unended l.follower l.followee l.state) (in_state l.state) relates (relation_mark l.seed) l.pairs.marks l.fn.acts l.acts

abbrev pub decreases-loop-place : goal.decreases-loop-place
decreases-loop-place l = length (filter (is_unended l.follower l.followee l.state) l.acts)
