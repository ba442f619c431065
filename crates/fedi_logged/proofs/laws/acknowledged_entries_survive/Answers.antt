use Rattle.std.proofs.Common.{ap}
use Rattle.fedi_logged.specs.Turns.{standing_by}
use Rattle.fedi_logged.proofs.Crashing.{after_begins, after_claims, after_more, after_now}
use Rattle.fedi_logged.proofs.laws.acknowledged_entries_survive.Goals as goal

pub returns-clause-now : goal.returns-clause-now
returns-clause-now g c = λ b log core holds.
    after_now b log (standing_by g.P.Keeper.shown g.P.Keeper.crashes core) holds (g.met.P.Keeper.crash_now core.keeper)

pub returns-clause-on : goal.returns-clause-on
returns-clause-on g c = λ b by seen more log moment o before after.
    after_more b by seen more log moment o (standing_by g.P.Keeper.shown g.P.Keeper.crashes before) (standing_by g.P.Keeper.shown g.P.Keeper.crashes after)

pub returns-clause-claims : goal.returns-clause-claims
returns-clause-claims g c = λ b seen log claims moment before after was same.
    after_claims b seen log claims moment (g.P.Keeper.crashes before.keeper) (g.P.Keeper.crashes after.keeper) (ap g.P.Keeper.crashes same.keeper) was

pub returns-clause-entries : goal.returns-clause-entries
returns-clause-entries g c = after_begins
