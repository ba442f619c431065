use Rattle.std.proofs.Common.{sym, ◌∙◌}
use Rattle.fedi_logged.proofs.Hosted.{hosted}
use Rattle.fedi_demo.proofs.VisitLemmas.{one_more_some}
use Rattle.fedi_demo.proofs.demonstrating.enter.Goals as goal

pub returns-in-Ok-clause-hosted : goal.returns-in-Ok-clause-hosted
returns-in-Ok-clause-hosted g c =
    hosted c.command.new.self.history
    (λ empty. one_more_some c.args.core.now.history c.args.entry (sym c.in-Ok.ensures.keeps.kept.history ∙ empty))
    c.command.ensures.keeps.legal
