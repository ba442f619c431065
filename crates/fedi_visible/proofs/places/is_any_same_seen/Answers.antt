use Rattle.std.proofs.Common.{arith, sym, ◌∙◌}
use Rattle.fedi_visible.specs.Places.{is_same_seen}
use Rattle.fedi_visible.proofs.Again.{any_here, none_more}
use Rattle.fedi_visible.proofs.places.is_any_same_seen.Goals as goal

pub returns-then-is_same_seen-clause-value : goal.returns-then-is_same_seen-clause-value
returns-then-is_same_seen-clause-value g c =
    let t = c.args.facts.now.town in
    sym (any_here (is_same_seen t c.args.caller.now c.args.which.now c.args.owner.now c.args.act.now) t.acts c.loop-place.place c.args.count c.shown-earlier.result.now
    c.shown-earlier.ensures.act c.loop-place-test.true c.requires (sym c.is_same_seen.ensures ∙ c.if-is_same_seen.true))

pub loop-place-preserved : goal.loop-place-preserved
loop-place-preserved g c =
    let t = c.args.facts.now.town in (
      none_more (is_same_seen t c.args.caller.now c.args.which.now c.args.owner.now c.args.act.now) t.acts c.loop-place.place c.shown-earlier.result.now
          c.shown-earlier.ensures.act c.loop-place.invariant.0 (sym c.is_same_seen.ensures ∙ c.if-is_same_seen.false),
      omega (arith, c.loop-place.invariant.1, c.shown-earlier.ensures.cost),
    )
