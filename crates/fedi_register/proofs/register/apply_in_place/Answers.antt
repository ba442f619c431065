use Rattle.std.proofs.Common.{subst, sym}
use Rattle.fedi_register.specs.Changes.{AreMadeOnce}
use Rattle.fedi_register.proofs.register.apply_in_place.Goals as goal

pub apply_effect-requires-clause-once : goal.apply_effect-requires-clause-once
apply_effect-requires-clause-once c = subst AreMadeOnce (sym c.as_mut_slice.ensures.value) c.requires.once

pub apply_effect-requires-clause-made : goal.apply_effect-requires-clause-made
apply_effect-requires-clause-made c = rw c.as_mut_slice.ensures.value c.requires.made

pub apply_effect-requires-clause-ids : goal.apply_effect-requires-clause-ids
apply_effect-requires-clause-ids c = rw c.as_mut_slice.ensures.value c.requires.ids

pub apply_effect-requires-clause-pairs : goal.apply_effect-requires-clause-pairs
apply_effect-requires-clause-pairs c = rw c.as_mut_slice.ensures.value c.requires.pairs
