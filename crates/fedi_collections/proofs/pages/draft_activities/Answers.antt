use Rattle.std.proofs.Common.{ap, map, slice_get, ◌∙◌}
use Rattle.fedi_model.specs.Documents.{collection_id, page_form}
use Rattle.fedi_collections.specs.Items.{excerpt_form}
use Rattle.fedi_collections.proofs.pages.draft_activities.Goals as goal

pub returns-clause-page : goal.returns-clause-page
returns-clause-page g c = λ xs same.
    let total = c.args.page.now.total in
    ap (λ id. page_form id c.args.number total (map excerpt_form c.in_ok-excerpts.excerpts.items)) c.in_ok-address.ensures
    ∙ ap (λ ds. page_form (collection_id c.args.which.now c.args.owner.now) c.args.number total ds)
    (c.in_ok-excerpts.ensures.forms xs (ap (map (slice_get c.args.facts.now.town.acts)) c.as_slice.ensures.value ∙ same))
