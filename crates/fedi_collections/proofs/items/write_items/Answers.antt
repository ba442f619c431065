use Rattle.std.proofs.Common.{arith, [], ◌∷◌, slice_get, subst}
use Rattle.std.proofs.lemmas.Iterator.Adapters.{YieldsList-from_rev_slice}
use Rattle.std.proofs.lemmas.Iterator.Consumers.{YieldsList-end}
use Rattle.std.proofs.lemmas.List.{length-reverse, length_push}
use Rattle.std.proofs.lemmas.Result.{on_ok_weaker}
use Rattle.std.specs.List.{flat_map}
use Rattle.json.specs.Token.{Token}
use Rattle.fedi_model.specs.Documents.{item_form}
use Rattle.fedi_collections.specs.Items.{tokens_at}
use Rattle.fedi_objects.specs.Writing.{Adds}
use Rattle.fedi_collections.proofs.Adding.{more_added, one_added, then_added}
use Rattle.fedi_collections.proofs.ItemTokens.{items_by_places}
use Rattle.fedi_collections.proofs.items.write_items.Goals as goal

pub loop-place-preserved : goal.loop-place-preserved
loop-place-preserved g c =
    let t = c.args.facts.now.town in (
      more_added (Token.begin_array ∷ []) (λ place. tokens_at (item_form t c.args.which.now) (slice_get t.acts place.now))
          c.loop-place.yielded c.in-Some.place _ c.loop-place.invariant.0 c.in_ok-write_place.ensures.written,
      omega (arith, c.loop-place.invariant.1, c.write_place.ensures.cost, length_push c.loop-place.yielded c.in-Some.place),
    )

pub returns-clause-written : goal.returns-clause-written
returns-clause-written g c =
    let t = c.args.facts.now.town in
    let form = item_form t c.args.which.now in
    let done = c.loop-place.yielded in
    let all = YieldsList-end (YieldsList-from_rev_slice c.args.places.now cc) done _ c.loop-place.yielded_by _ _ c.in-None.is c.next.ensures.steps in
    let ts = Token.begin_array ∷ flat_map (λ place. tokens_at form (slice_get t.acts place.now)) done in
    on_ok_weaker c.end_array.result
    (λ added xs same. subst (λ us. Adds us c.args.out.now c.end_array.new.self)
    (items_by_places form t.acts (λ place. place.now) done c.args.places.now xs all.0 same) added)
    (then_added ts (Token.end_array ∷ []) _ c.loop-place.invariant.0 c.end_array.result
    (one_added Token.end_array c.end_array.result c.end_array.ensures))

pub returns-clause-cost : goal.returns-clause-cost
returns-clause-cost g c =
    let all = YieldsList-end (YieldsList-from_rev_slice c.args.places.now cc) c.loop-place.yielded _ c.loop-place.yielded_by _ _ c.in-None.is c.next.ensures.steps in
    omega (arith, c.loop-place.invariant.1, all.1, length-reverse c.args.places.now)
