use Rattle.std.proofs.Common.{arith, ◌∙◌}
use Rattle.fedi_town.specs.Histories.{town}
use Rattle.fedi_demo.proofs.VisitLemmas.{all_founded, one_more_member}
use Rattle.fedi_demo.proofs.demonstrating.settle.Goals as goal

pub enter-requires : goal.enter-requires
enter-requires g c =
    record { command = c.in_ok-entry.ensures.command (town c.members.core.history) c.members.invariant.hosted }

pub members-preserved : goal.members-preserved
members-preserved g c =
    let before = c.members.invariant in
    let short = c.members-test.true in
    record {
      within = omega (arith, short);
      history = c.in_ok-enter.ensures.history
          ∙ one_more_member c.members.core.history c.in_ok-entry.entry c.members.count before.history c.in_ok-entry.ensures.member;
      hosted = c.in_ok-enter.ensures.hosted;
    }

pub enter-requires-2 : goal.enter-requires-2
enter-requires-2 g c =
    record { command = c.in_ok-peer.ensures.command (town c.members.core.history) c.members.invariant.hosted }

pub returns-clause-founded : goal.returns-clause-founded
returns-clause-founded g c =
    let before = c.members.invariant in
    let over = c.members-test.false in
    c.in_ok-enter-2.ensures.history
    ∙ all_founded c.members.core.history c.in_ok-peer.peer c.members.count before.history (omega (arith, before.within, over)) c.in_ok-peer.ensures.peer
