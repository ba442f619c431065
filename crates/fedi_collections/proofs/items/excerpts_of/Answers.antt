use Rattle.std.proofs.Common.{arith, [], ◌++◌, ap, map, slice_get, ◌∙◌}
use Rattle.std.proofs.lemmas.Iterator.Adapters.{YieldsList-from_rev_slice}
use Rattle.std.proofs.lemmas.Iterator.Consumers.{YieldsList-end}
use Rattle.std.proofs.lemmas.List.{flat_map_more, length-reverse, length_push}
use Rattle.fedi_model.specs.Documents.{embedded_form}
use Rattle.fedi_collections.specs.Items.{forms_at, excerpt_form}
use Rattle.fedi_collections.proofs.ItemTokens.{forms_by_places}
use Rattle.fedi_collections.proofs.items.excerpts_of.Goals as goal

pub loop-place-init : goal.loop-place-init
loop-place-init g c = (ap (map excerpt_form) c.in_ok-excerpts.ensures.items, omega arith)

pub loop-place-preserved : goal.loop-place-preserved
loop-place-preserved g c =
    let t = c.args.facts.now.town in
    let form = embedded_form t in (
      c.in_ok-add_excerpt.ensures.added ∙ ap (λ ds. ds ++ forms_at form (slice_get t.acts c.in-Some.place.now)) c.loop-place.invariant.0
          ∙ flat_map_more (λ place. forms_at form (slice_get t.acts place.now)) [] c.loop-place.yielded c.in-Some.place,
      omega (arith, c.loop-place.invariant.1, c.add_excerpt.ensures.cost, length_push c.loop-place.yielded c.in-Some.place),
    )

pub returns-clause-forms : goal.returns-clause-forms
returns-clause-forms g c = λ xs same.
    let t = c.args.facts.now.town in
    let done = c.loop-place.yielded in
    let all = YieldsList-end (YieldsList-from_rev_slice c.args.places.now cc) done _ c.loop-place.yielded_by _ _ c.in-None.is c.next.ensures.steps in
    c.loop-place.invariant.0 ∙ forms_by_places (embedded_form t) t.acts (λ place. place.now) done c.args.places.now xs all.0 same

pub returns-clause-cost : goal.returns-clause-cost
returns-clause-cost g c =
    let all = YieldsList-end (YieldsList-from_rev_slice c.args.places.now cc) c.loop-place.yielded _ c.loop-place.yielded_by _ _ c.in-None.is c.next.ensures.steps in
    omega (arith, c.loop-place.invariant.1, all.1, length-reverse c.args.places.now)
