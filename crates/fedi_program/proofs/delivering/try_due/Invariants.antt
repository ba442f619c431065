use Rattle.std.proofs.Common.{◌≡◌, length}
use Rattle.fedi_queue.specs.Due.{due_in}
use Rattle.fedi_log.specs.Keeping.{state_of}
use Rattle.fedi_town.specs.Histories.{town}
use Rattle.fedi_program.specs.Delivering.{IsAtRest}
use Rattle.fedi_program.specs.Seen.{output, tells}
use Rattle.fedi_program.proofs.DeliverLemmas.{IsTrying}
use Rattle.fedi_program.proofs.delivering.try_due.Given as goal

-- the first of what was due is tried, and nothing is claimed
abbrev pub invariant-due : goal.invariant-due
invariant-due g l =
    let core = l.alone.logged.core in
    record {
      first : l.first ≡ length g.N.Opened.state.history;
      rest : IsAtRest g.N.Opened.state.history core.history l.alone.logged.log;
      trying : IsTrying g.P.Keeper.growth g.P.Keeper.room l.moment g.N.Opened.state
          (state_of core.history (g.P.Keeper.shown core.keeper))
          (tells g.K.Link l.fn.link) (tells g.K.Link l.link)
          (output g.O.Sink l.fn.out) (output g.O.Sink l.out);
    }

abbrev pub decreases-due : goal.decreases-due
decreases-due g l = length (due_in (town l.alone.logged.core.history) l.moment)
