use Rattle.fedi_log.proofs.Growing.{added_both, added_one, added_others}
use Rattle.fedi_log.proofs.laws.items_past_are_added.Goals as goal

pub returns-clause-others : goal.returns-clause-others
returns-clause-others c = added_others

pub returns-clause-one : goal.returns-clause-one
returns-clause-one c = added_one

pub returns-clause-both : goal.returns-clause-both
returns-clause-both c = added_both
