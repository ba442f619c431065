use Rattle.std.proofs.Common.{◌≤◌, subst}
use Rattle.fedi_model.specs.Documents.{item_form}
use Rattle.fedi_collections.proofs.ItemTokens.{none_past}
use Rattle.fedi_collections.proofs.items.write_place.Goals as goal

pub returns-else-place-activities-clause-written : goal.returns-else-place-activities-clause-written
returns-else-place-activities-clause-written g c =
    let t = c.args.facts.now.town in
    none_past (item_form t c.args.which.now) t.acts c.args.place c.args.out.now (subst (λ count. count ≤ c.args.place) c.activities.ensures.value c.if-place-activities.false)
