use Rattle.std.proofs.Common.{refl}
use Rattle.fedi_program.proofs.WorkLemmas.{reports_others}
use Rattle.fedi_program.proofs.working.report_unopened.Goals as goal

pub returns-in-Inetd : goal.returns-in-Inetd
returns-in-Inetd g c = rw c.in-Inetd.is (c.status_by.ensures, refl)

pub returns-in_default : goal.returns-in_default
returns-in_default g c = reports_others c.args.command c.args.fault _ _ _ c.in_default.not-Inetd c.report_store.ensures
