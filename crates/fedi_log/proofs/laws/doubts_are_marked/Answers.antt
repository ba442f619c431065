use Rattle.fedi_log.proofs.Growing.{doubts_failed, doubts_kept, marks_more}
use Rattle.fedi_log.proofs.laws.doubts_are_marked.Goals as goal

pub returns-clause-marks : goal.returns-clause-marks
returns-clause-marks c = marks_more

pub returns-clause-kept : goal.returns-clause-kept
returns-clause-kept c = doubts_kept

pub returns-clause-failed : goal.returns-clause-failed
returns-clause-failed c = doubts_failed
