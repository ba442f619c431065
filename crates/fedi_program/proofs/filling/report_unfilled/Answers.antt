use Rattle.fedi_program.proofs.filling.report_unfilled.Goals as goal

pub returns-in-Source : goal.returns-in-Source
returns-in-Source g c = rw c.in-Source.is c.report-in-Source.ensures

pub returns-in-Failed : goal.returns-in-Failed
returns-in-Failed g c = rw c.in-Failed.is c.report-in-Failed.ensures
