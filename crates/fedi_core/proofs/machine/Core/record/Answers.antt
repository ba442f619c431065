use Rattle.std.proofs.Common.{ap, sym, ◌∙◌}
use Rattle.fedi_queue.specs.Rows.{rows_of}
use Rattle.fedi_town.specs.Histories.{town}
use Rattle.fedi_core.proofs.Claims.{rows_released}
use Rattle.fedi_core.proofs.machine.Core.record.Goals as goal

pub returns-in-Err-clause-queue : goal.returns-in-Err-clause-queue
returns-in-Err-clause-queue g c =
    rows_released (town c.keep_attempt.new.self.history) c.keep_attempt.new.self.rows c.release.new.self.rows c.args.claim.activity c.args.claim.recipient c.keep_attempt.ensures.queue
    (ap (λ m. m.rows) c.release.ensures.released)
    ∙ sym (ap (λ m. rows_of (town m.history)) c.release.ensures.released)
