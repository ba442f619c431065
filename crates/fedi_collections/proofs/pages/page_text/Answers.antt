use Rattle.std.proofs.Common.{◌≡◌, map, reverse, subst, ◌∙◌}
use Rattle.serde_json.specs.Written.{compact_text}
use Rattle.fedi_model.specs.Documents.{item_form, page_form}
use Rattle.fedi_collections.proofs.Found.{text_written}
use Rattle.fedi_collections.proofs.pages.page_text.Goals as goal

pub returns-clause-text : goal.returns-clause-text
returns-clause-text g c = λ xs same.
    let ds = map (item_form c.args.facts.now.town c.args.which.now) (reverse xs) in
    subst (λ id. c.into_inner.result.items ≡ compact_text (page_form id c.args.number c.args.page.now.total ds)) c.in_ok-address.ensures
    (text_written (page_form c.in_ok-address.address c.args.number c.args.page.now.total ds) c.new-out.result c.write_page.new.out _
    (c.new-out.ensures.before ∙ c.in_ok-with_capacity.ensures.items) c.new-out.ensures.tokens (c.in_ok-write_page.ensures.written xs same) c.into_inner.ensures.items)
