use Rattle.fedi_opening.proofs.Times.{no_time}
use Rattle.fedi_startup.proofs.opening.open_core.Goals as goal

pub returns-in-Err-clause-time : goal.returns-in-Err-clause-time
returns-in-Err-clause-time g c = no_time (g.P.Keeper.shown c.args.keeper) (g.P.Keeper.crashes c.args.keeper) (g.met.P.Keeper.crash_now c.args.keeper)
