use Rattle.fedi_log.specs.Keeping.{state_of}
use Rattle.fedi_program.proofs.MemberLemmas.{settles}
use Rattle.fedi_program.proofs.delivering.report_stop.Goals as goal

pub returns-in-KeeperFault-clause-ends : goal.returns-in-KeeperFault-clause-ends
returns-in-KeeperFault-clause-ends g c =
    let failed = state_of c.args.core.now.history (g.P.Keeper.shown c.args.core.now.keeper) in
    let after = state_of c.settle.new.self.history (g.P.Keeper.shown c.settle.new.self.keeper) in
    rw c.in-KeeperFault.is
    (c.report.ensures.0, settles failed after c.settle.result c.settle.ensures.history c.settle.ensures.settled c.settle.ensures.refused, c.report.ensures.1)
