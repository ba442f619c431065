use Rattle.fedi_script.proofs.LineLemmas.{cut_less, cut_line, some_left, whole_line}
use Rattle.fedi_script.proofs.lines.next_line.Goals as goal

pub returns-in-Some-clause-line : goal.returns-in-Some-clause-line
returns-in-Some-clause-line c = cut_line c.args.script.now c.in-Some.end c.in-Some.ensures

pub returns-in-Some-clause-less : goal.returns-in-Some-clause-less
returns-in-Some-clause-less c = cut_less c.args.script.now c.in-Some.end c.in-Some.ensures

pub returns-in-None-clause-line : goal.returns-in-None-clause-line
returns-in-None-clause-line c = whole_line c.args.script.now c.requires c.in-None.ensures

pub returns-in-None-clause-less : goal.returns-in-None-clause-less
returns-in-None-clause-less c = some_left c.args.script.now c.requires
