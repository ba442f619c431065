use Rattle.std.proofs.Common.{ap, map, reverse, slice_get, subst, ◌∙◌}
use Rattle.std.proofs.lemmas.Result.{on_ok_weaker}
use Rattle.fedi_model.specs.Documents.{item_form}
use Rattle.fedi_collections.proofs.Adding.{added_as}
use Rattle.fedi_collections.proofs.DocumentParts.{page_parts}
use Rattle.fedi_collections.specs.Members.{page_end}
use Rattle.fedi_objects.proofs.Additions.{then}
use Rattle.fedi_objects.specs.Writing.{Adds}
use Rattle.fedi_collections.proofs.pages.write_page.Goals as goal

pub returns-clause-written : goal.returns-clause-written
returns-clause-written g c =
    let id = c.args.address.now in
    let k = c.args.number in
    let t = c.args.facts.now.town in
    let total = c.args.page.now.total in
    on_ok_weaker c.end_page.result
    (λ ended xs same. let ds = map (item_form t c.args.which.now) (reverse xs) in
    subst (λ ts. Adds ts c.args.out.now c.end_page.new.out) (page_parts id k total ds)
    (then c.in_ok-begin_page.ensures.written
    (then (c.in_ok-write_items.ensures.written xs (ap (map (slice_get t.acts)) c.as_slice.ensures.value ∙ same))
    (added_as (λ i. page_end i k total) _ id c.in_ok-begin_page.ensures.same ended))))
    c.end_page.ensures
