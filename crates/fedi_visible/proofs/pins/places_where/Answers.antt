use Rattle.std.proofs.Common.{◌≡◌, ◌∙◌, arith, ap, refl, sym, take_all}
use Rattle.std.proofs.lemmas.Fn.{says_at}
use Rattle.fedi_visible.specs.Places.{places_from}
use Rattle.fedi_visible.proofs.Scanned.{none_found, one_found}
use Rattle.fedi_visible.proofs.pins.places_where.Goals as goal
use Rattle.fedi_visible.proofs.pins.places_where.Goals.{then-passes+in_ok-push, else-passes}

pub loop-place-init : goal.loop-place-init
loop-place-init g c = record { found = λ p decides. c.new-places.ensures.items; cost = omega arith }

pub loop-place-preserved : goal.loop-place-preserved
loop-place-preserved g c =
    let acts = c.args.facts.now.town.acts in
    let n = c.loop-place.place in
    let x = c.shown.result.now in
    record {
      found = λ p decides.
          let before = c.loop-place.invariant.found p decides in
          let says : c.passes.result ≡ p x = decides x c.passes.result (says_at g.F.Fn c.passes.ensures refl) in
          elim c.if-passes.branch [
            | then-passes+in_ok-push w ↦
                rw w.places-is (one_found p acts n x c.loop-place.places.items w.push.new.self.items c.shown.ensures.act (sym says ∙ w.if-passes.true) before w.in_ok-push.ensures.items)
            | else-passes w ↦ rw w.places-is (none_found p acts n x c.loop-place.places.items c.shown.ensures.act (sym says ∙ w.if-passes.false) before)
          ];
      cost = omega (arith, c.loop-place.invariant.cost, c.shown.ensures.cost);
    }

pub returns-clause-places : goal.returns-clause-places
returns-clause-places g c = λ p decides.
    c.loop-place.invariant.found p decides ∙ ap (places_from p 0) (take_all c.loop-place.place c.args.facts.now.town.acts (omega (arith, c.loop-place-test.false, c.activities-place-end.ensures.value)))
