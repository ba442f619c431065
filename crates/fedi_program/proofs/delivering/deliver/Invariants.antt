use Rattle.fedi_log.specs.Keeping.{state_of}
use Rattle.fedi_program.proofs.delivering.deliver.Given as goal

abbrev pub ghosts-try_due : goal.ghosts-try_due
ghosts-try_due g a = record {
  state = state_of a.core.history (g.P.Keeper.shown a.core.keeper);
  crashes = g.P.Keeper.crashes a.core.keeper;
}
