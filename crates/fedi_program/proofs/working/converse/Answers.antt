use Rattle.std.proofs.Common.{None, inl, inr, refl}
use Rattle.fedi_log.specs.Keeping.{base_of, state_of}
use Rattle.fedi_log.specs.Log.{given}
use Rattle.fedi_logged.proofs.Crashing.{survives_first}
use Rattle.fedi_program.proofs.RunLemmas.{has_causes}
use Rattle.fedi_program.proofs.working.converse.Goals as goal

pub returns-in-Ok-clause-ends : goal.returns-in-Ok-clause-ends
returns-in-Ok-clause-ends g c =
    let e = c.serve_connection-end.ensures.ends in
    (e.0, e.1, inl (c.serve_connection-end.result.0, c.status_of.ensures, e.2))

pub returns-in-Err-clause-ends : goal.returns-in-Err-clause-ends
returns-in-Err-clause-ends g c =
    let opened = state_of c.args.core.history (g.P.Keeper.shown c.args.core.keeper) in (
      given c.args.core.history,
      survives_first (base_of g.P.Keeper.growth g.P.Keeper.room opened) None opened (g.P.Keeper.crashes c.args.core.keeper) refl refl
          (g.met.P.Keeper.crash_now c.args.core.keeper),
      inr (refl, refl, refl),
    )

pub returns-in-Ok-clause-causes : goal.returns-in-Ok-clause-causes
returns-in-Ok-clause-causes g c = has_causes _ _ c.serve_connection-end.result.0 _ c.status_of.ensures c.serve_connection-end.ensures.causes
