use Rattle.std.proofs.Common.{arith}
use Rattle.fedi_town.specs.Histories.{town}
use Rattle.fedi_world.proofs.Finding.{all_nowhere, next_nowhere, other_host, same_host}
use Rattle.fedi_world.proofs.Spots.{index_is}
use Rattle.fedi_world.proofs.asking.seat_at.Goals as goal

pub loop-number-init : goal.loop-number-init
loop-number-init g c =
    λ k m less at same. absurd (omega (arith, less))

pub returns-then-eq-clause-some : goal.returns-then-eq-clause-some
returns-then-eq-clause-some g c =
    let m = c.index-seats-number.result in (
      m,
      index_is c.args.seats.now c.loop-number.number m c.loop-number-test.true c.index-seats-number.is,
      same_host (town m.core.history).host c.host.result.now c.text.result.now c.args.host.now c.eq.result c.host.ensures c.text.ensures.value c.eq.ensures c.if-eq.true,
    )

pub loop-number-preserved : goal.loop-number-preserved
loop-number-preserved g c =
    let m = c.index-seats-number.result in
    next_nowhere {P = g.row.P.Denot} c.args.seats.now c.args.host.now c.loop-number.number m c.loop-number-test.true c.index-seats-number.is
    (other_host (town m.core.history).host c.host.result.now c.text.result.now c.args.host.now c.eq.result c.host.ensures c.text.ensures.value c.eq.ensures c.if-eq.false) c.loop-number.invariant

pub returns-clause-none : goal.returns-clause-none
returns-clause-none g c =
    all_nowhere {P = g.row.P.Denot} c.args.seats.now c.args.host.now c.loop-number.number c.loop-number-test.false c.loop-number.invariant
