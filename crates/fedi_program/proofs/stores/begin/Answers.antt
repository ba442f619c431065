use Rattle.std.proofs.Common.{inr}
use Rattle.fedi_logged.proofs.SessionLemmas.{now_of}
use Rattle.fedi_program.proofs.stores.begin.Goals as goal

pub returns-in-Ok-parse-clause-begun : goal.returns-in-Ok-parse-clause-begun
returns-in-Ok-parse-clause-begun g c = record {
  same = c.in-Ok-parse.ensures.ok;
  valid = c.in-Ok-parse.ensures.host;
  moment_is = now_of _ c.now.result _ c.now.ensures c.clamped-moment.ensures;
  line_is = c.in-Ok.ensures;
}

pub returns-in-Err-BadHost-clause-refused : goal.returns-in-Err-BadHost-clause-refused
returns-in-Err-BadHost-clause-refused g c = inr (c.in-Err-BadHost.ensures.bad_host c.in-Err-BadHost.field-0-is, c.report.ensures)
