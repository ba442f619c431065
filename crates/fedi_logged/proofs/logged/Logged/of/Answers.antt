use Rattle.std.proofs.Common.{ap, arith, sym}
use Rattle.fedi_effects.specs.Rosters.{callers_in}
use Rattle.fedi_town.specs.Histories.{town}
use Rattle.fedi_log.specs.Keeping.{state_of}
use Rattle.fedi_logged.proofs.Claiming.{claiming_first}
use Rattle.fedi_logged.proofs.Standing.{stands_opened}
use Rattle.fedi_logged.proofs.logged.Logged.of.Goals as goal

pub invariant_of-result : goal.invariant_of-result
invariant_of-result g c =
    let stands = stands_opened g.P.Keeper.growth g.P.Keeper.room g.O.Opened.state (state_of c.args.core.history (g.P.Keeper.shown c.args.core.keeper)) g.O.Opened.crashes (g.P.Keeper.crashes c.args.core.keeper)
    c.new.result c.count-front.result c.new.ensures c.requires.opened c.requires.crashes c.requires.legal (g.met.P.Keeper.crash_now c.args.core.keeper) c.count-front.ensures in (
      stands.0,
      stands.1,
      claiming_first c.args.core.history g.O.Opened.state.history c.args.core.rows c.new.result c.count-front.result c.new.ensures (ap (λ s. s.history) c.requires.opened) c.requires.unclaimed (let within = c.count-front.type_inv in omega (arith, within)),
      sym (ap (λ s. callers_in (town s.history)) c.requires.opened),
    )
