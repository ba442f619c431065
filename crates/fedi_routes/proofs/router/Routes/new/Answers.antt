use Rattle.std.proofs.Common.{refl}
use Rattle.fedi_routes.specs.Table.{rows}
use Rattle.fedi_routes.proofs.Rows.{added_one, added_all, all_free, free_one}
use Rattle.fedi_routes.proofs.router.Routes.new.Goals as goal

pub loop-kind-init : goal.loop-kind-init
unfolding rows
loop-kind-init c = record { whole = rw c.new-router.ensures refl; free = rw c.new-router.ensures all_free }

pub add-requires : goal.add-requires
add-requires c = (free_one c.loop-kind.kind-index c.loop-kind.router c.loop-kind-test.true c.loop-kind.invariant.free).0

pub loop-kind-preserved : goal.loop-kind-preserved
loop-kind-preserved c = record {
  whole =
      added_one c.loop-kind.kind-index c.loop-kind.router c.add.new.router c.loop-kind-test.true c.loop-kind.invariant.whole c.in_ok-add.ensures;
  free =
      rw c.in_ok-add.ensures
      (free_one c.loop-kind.kind-index c.loop-kind.router c.loop-kind-test.true c.loop-kind.invariant.free).1;
}

pub invariant_of-result : goal.invariant_of-result
invariant_of-result c = record { whole = added_all c.loop-kind.kind-index c.loop-kind.router c.loop-kind-test.false c.loop-kind.invariant.whole }
