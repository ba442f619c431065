use Rattle.fedi_program.proofs.stores.report_making.Goals as goal

pub returns-in-Failed : goal.returns-in-Failed
returns-in-Failed g c = rw c.in-Failed.is c.report-in-Failed.ensures
