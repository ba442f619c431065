use Rattle.fedi_log.proofs.Growing.{given_history, given_marks}
use Rattle.fedi_log.proofs.laws.given_logs_hold_their_history.Goals as goal

pub returns-clause-history : goal.returns-clause-history
returns-clause-history c = given_history

pub returns-clause-marks : goal.returns-clause-marks
returns-clause-marks c = given_marks
