use Rattle.std.proofs.lemmas.Result.{on_err_weaker}
use Rattle.fedi_log.specs.Keeping.{base_of}
use Rattle.fedi_logged.specs.Turning.{Tells}
use Rattle.fedi_logged.proofs.Telling.{of_text}
use Rattle.fedi_logged.proofs.logged.Logged.answer.Goals as goal

pub returns-clause-text : goal.returns-clause-text
returns-clause-text g c =
    of_text (λ text. Tells (base_of g.P.Keeper.growth g.P.Keeper.room g.O.Opened.state) c.args.by c.args.self.now.log c.settle.new.self.log
    c.args.moment c.args.request.now c.args.body.now c.args.closing text) _ c.write.result c.in_ok-answered.ensures.text c.write.ensures.text

pub returns-clause-lacking : goal.returns-clause-lacking
returns-clause-lacking g c = on_err_weaker c.write.result c.in_ok-answered.ensures.draft c.write.ensures.memory
