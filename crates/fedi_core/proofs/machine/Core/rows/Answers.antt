use Rattle.std.proofs.Common.{ap, ◌∙◌}
use Rattle.fedi_queue.specs.Rows.{rows_of}
use Rattle.fedi_town.specs.Histories.{town}
use Rattle.fedi_core.proofs.Claims.{none_claimed}
use Rattle.fedi_core.proofs.machine.Core.rows.Goals as goal

pub returns-clause-unclaimed : goal.returns-clause-unclaimed
returns-clause-unclaimed g c =
    none_claimed (town c.args.self.now.history) c.entries.result.now
    (c.entries.ensures.queue ∙ ap (λ h. rows_of (town h)) (c.self.invariant.queued ∙ ap (λ m. m.history) c.self.view_is))
