use Rattle.fedi_logged.proofs.SessionLemmas.{now_of}
use Rattle.fedi_program.proofs.delivering.deliver.Goals as goal

pub returns-clause-tried : goal.returns-clause-tried
returns-clause-tried g c =
    c.try_due.ensures.tried (g.C.Clock.told c.args.clock.now)
    (now_of _ c.now.result _ c.now.ensures c.clamped-moment.ensures)
