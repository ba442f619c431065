use Rattle.std.proofs.Common.{None, refl}
use Rattle.fedi_log.specs.Keeping.{base_of, state_of}
use Rattle.fedi_logged.proofs.Crashing.{survives_first}
use Rattle.fedi_program.proofs.reporting.gather.Goals as goal

pub returns-clause-crashes : goal.returns-clause-crashes
returns-clause-crashes g c =
    let opened = state_of c.args.core.now.history (g.P.Keeper.shown c.args.core.now.keeper) in
    survives_first (base_of g.P.Keeper.growth g.P.Keeper.room opened) None opened (g.P.Keeper.crashes c.args.core.now.keeper) refl refl
    (g.met.P.Keeper.crash_now c.args.core.now.keeper)
