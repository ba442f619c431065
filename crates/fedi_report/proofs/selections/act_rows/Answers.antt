use Rattle.fedi_report.proofs.Selecting.{ordered_rows}
use Rattle.fedi_report.proofs.selections.act_rows.Goals as goal

pub returns-clause-order : goal.returns-clause-order
returns-clause-order g c = ordered_rows _ c.rows_of.result c.rows_of.ensures
