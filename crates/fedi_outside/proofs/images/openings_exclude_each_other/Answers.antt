use Rattle.fedi_outside.proofs.Openings.{damaged_is_store, damaged_not_older, image_is_store, image_not_older, not_damaged, older_is_store, one_place}
use Rattle.fedi_outside.proofs.images.openings_exclude_each_other.Goals as goal

pub returns-clause-place : goal.returns-clause-place
returns-clause-place c = one_place

pub returns-clause-whole : goal.returns-clause-whole
returns-clause-whole c = not_damaged

pub returns-clause-store : goal.returns-clause-store
returns-clause-store c = image_is_store

pub returns-clause-neither : goal.returns-clause-neither
returns-clause-neither c = damaged_is_store

pub returns-clause-older : goal.returns-clause-older
returns-clause-older c = image_not_older

pub returns-clause-former : goal.returns-clause-former
returns-clause-former c = damaged_not_older

pub returns-clause-old_store : goal.returns-clause-old_store
returns-clause-old_store c = older_is_store
