use Rattle.std.proofs.Common.{refl}
use Rattle.fedi_log.specs.Keeping.{base_of}
use Rattle.fedi_log.proofs.Keeping.{holds_given, since_more, since_on}
use Rattle.fedi_log.proofs.laws.machines_stand_for_logs.Goals as goal

pub returns-clause-opened : goal.returns-clause-opened
returns-clause-opened c = λ growth room by opened. holds_given (base_of growth room opened) by opened refl refl

pub returns-clause-more : goal.returns-clause-more
returns-clause-more c = since_more

pub returns-clause-on : goal.returns-clause-on
returns-clause-on c = since_on
