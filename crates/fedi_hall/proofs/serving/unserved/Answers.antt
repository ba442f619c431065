use Rattle.std.proofs.Common.{refl}
use Rattle.fedi_logged.specs.Attempts.{told_by}
use Rattle.fedi_hall.proofs.Ending.{serves_none}
use Rattle.fedi_hall.proofs.serving.unserved.Goals as goal

pub returns-clause-served : goal.returns-clause-served
returns-clause-served g c = λ told.
    serves_none g.P.Keeper.growth g.P.Keeper.room told g.O.Opened.state g.O.Opened.crashes g.P.Keeper.shown g.P.Keeper.crashes g.W.Door.served (told_by g.K.Link.asked g.K.Link.heard g.K.Link.link_faults) c.args.benches.items
    c.args.core c.args.core c.requires.opened c.requires.crashes c.requires.legal (g.met.P.Keeper.crash_now c.args.core.keeper) refl
