use Rattle.std.proofs.Common.{List, ℕ, ap, map, reverse, subst, ◌∙◌}
use Rattle.serde_json.specs.Data.{string}
use Rattle.serde_json.specs.Written.{compact_text}
use Rattle.fedi_model.specs.Documents.{page_form}
use Rattle.fedi_collections.proofs.Adding.{added_as}
use Rattle.fedi_collections.proofs.DocumentParts.{page_parts}
use Rattle.fedi_collections.proofs.Found.{text_written}
use Rattle.fedi_collections.specs.Members.{page_end}
use Rattle.fedi_objects.proofs.Additions.{then}
use Rattle.fedi_objects.specs.Writing.{Adds}
use Rattle.fedi_pins.specs.Held.{item_at}
use Rattle.fedi_pins.proofs.texts.page_text.Goals as goal

pub returns-clause-text : goal.returns-clause-text
returns-clause-text g c =
    let id = c.args.address in
    let k = c.args.number in
    let total = c.args.page.now.total in
    let item = item_at c.args.facts.now.town c.args.listing in
    let ds = map string (reverse (map item c.as_slice-items.result.now)) in
    text_written (page_form id k total ds) c.new-out.result c.end_page.new.out _ (c.new-out.ensures.before ∙ c.in_ok-with_capacity.ensures.items) c.new-out.ensures.tokens
    (subst (λ ts. Adds ts c.new-out.result c.end_page.new.out) (page_parts id k total ds)
    (then c.in_ok-begin_page.ensures.written (then c.in_ok-write_items.ensures.written (added_as (λ i. page_end i k total) _ id c.in_ok-begin_page.ensures.same c.in_ok-end_page.ensures))))
    c.into_inner.ensures.items
    ∙ ap (λ (places : List ℕ). compact_text (page_form id k total (map string (reverse (map item places))))) c.as_slice-items.ensures.value
