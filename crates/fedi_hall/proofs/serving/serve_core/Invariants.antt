use Rattle.fedi_log.specs.Keeping.{state_of}
use Rattle.fedi_hall.proofs.serving.serve_core.Given as goal

abbrev pub ghosts-serve_opened : goal.ghosts-serve_opened
ghosts-serve_opened g a = record {
  state = state_of a.core.history (g.P.Keeper.shown a.core.keeper);
  crashes = g.P.Keeper.crashes a.core.keeper;
}
