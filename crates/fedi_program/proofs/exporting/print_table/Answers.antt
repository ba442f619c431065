use Rattle.std.proofs.Common.{None, refl}
use Rattle.fedi_log.specs.Keeping.{base_of, state_of}
use Rattle.fedi_logged.proofs.Crashing.{survives_first}
use Rattle.fedi_program.proofs.exporting.print_table.Goals as goal

pub returns-in-Ok-clause-crashes : goal.returns-in-Ok-clause-crashes
returns-in-Ok-clause-crashes g c =
    let opened = state_of c.args.core.now.history (g.P.Keeper.shown c.args.core.now.keeper) in
    survives_first (base_of g.P.Keeper.growth g.P.Keeper.room opened) None opened (g.P.Keeper.crashes c.args.core.now.keeper) refl refl
    (g.met.P.Keeper.crash_now c.args.core.now.keeper)

pub returns-in-Err-WriteFault-clause-crashes : goal.returns-in-Err-WriteFault-clause-crashes
returns-in-Err-WriteFault-clause-crashes g c =
    let opened = state_of c.args.core.now.history (g.P.Keeper.shown c.args.core.now.keeper) in
    survives_first (base_of g.P.Keeper.growth g.P.Keeper.room opened) None opened (g.P.Keeper.crashes c.args.core.now.keeper) refl refl
    (g.met.P.Keeper.crash_now c.args.core.now.keeper)

pub returns-in-Err-Memory-clause-crashes : goal.returns-in-Err-Memory-clause-crashes
returns-in-Err-Memory-clause-crashes g c =
    let opened = state_of c.args.core.now.history (g.P.Keeper.shown c.args.core.now.keeper) in
    survives_first (base_of g.P.Keeper.growth g.P.Keeper.room opened) None opened (g.P.Keeper.crashes c.args.core.now.keeper) refl refl
    (g.met.P.Keeper.crash_now c.args.core.now.keeper)
