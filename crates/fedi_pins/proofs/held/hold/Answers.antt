use Rattle.std.proofs.Common.{arith, get_or, refl}
use Rattle.fedi_pins.specs.Maps.{place_in}
use Rattle.fedi_pins.proofs.Positions.{held_step, there_at}
use Rattle.fedi_pins.proofs.held.hold.Goals as goal

pub change_at-requires : goal.change_at-requires
change_at-requires g c = there_at c.args.facts.now.town c.args.places.now c.loop-place.place-index _ c.requires c.loop-place-test.true refl

pub loop-place-preserved : goal.loop-place-preserved
loop-place-preserved g c = record {
  held =
      held_step c.args.facts.now.town c.args.caller.now c.args.listing c.args.author.now c.args.board.now c.args.places.now c.loop-place.place-index
      (get_or c.args.places.now c.loop-place.place-index 0) (place_in c.loop-place.held) (place_in c.change_at.new.held) c.loop-place-test.true refl c.loop-place.invariant.held
      c.in_ok-change_at.ensures.held;
  cost = omega (arith, c.loop-place.invariant.cost, c.in_ok-change_at.ensures.cost);
}
