use Rattle.std.proofs.Common.{None}
use Rattle.fedi_log.specs.Keeping.{base_of}
use Rattle.fedi_logged.proofs.Own.{alone_lacks, alone_more, lacks_here, tells_here}
use Rattle.fedi_logged.proofs.alone.AloneRoutesAnswers.answer.Goals as goal

pub returns-in_ok-ask-in-Ok-clause-ready : goal.returns-in_ok-ask-in-Ok-clause-ready
returns-in_ok-ask-in-Ok-clause-ready g c = (
  c.requires.ready.0,
  alone_more g.P.Keeper.growth None _ _ _ _ _ c.requires.ready.1 c.answer.ensures.turn,
)

pub returns-in_ok-ask-in-Ok-clause-lacking : goal.returns-in_ok-ask-in-Ok-clause-lacking
returns-in_ok-ask-in-Ok-clause-lacking g c =
    alone_lacks None _ _ c.answer.result c.answer.ensures.lacking

pub returns-in_err-ask-in-Ok-clause-lacking : goal.returns-in_err-ask-in-Ok-clause-lacking
returns-in_err-ask-in-Ok-clause-lacking g c = lacks_here None _ _

pub returns-in-Err-clause-text : goal.returns-in-Err-clause-text
returns-in-Err-clause-text g c =
    tells_here (base_of g.P.Keeper.growth g.P.Keeper.room g.O.Opened.state) None _ _
    c.args.moment c.args.request.now c.args.body.now c.args.closing c.refuse.result
    (c.refuse.ensures None)
