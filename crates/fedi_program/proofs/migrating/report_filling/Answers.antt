use Rattle.fedi_program.proofs.migrating.report_filling.Goals as goal

pub returns-in-Source : goal.returns-in-Source
returns-in-Source g c = rw c.in-Source.is c.report.ensures

pub returns-in-Failed : goal.returns-in-Failed
returns-in-Failed g c = rw c.in-Failed.is c.report-in-Failed.ensures

pub returns-in-Full : goal.returns-in-Full
returns-in-Full g c = rw c.in-Full.is c.report-in-Full.ensures
