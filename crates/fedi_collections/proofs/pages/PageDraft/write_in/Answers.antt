use Rattle.std.proofs.Common.{map, subst}
use Rattle.std.proofs.lemmas.Result.{on_ok_weaker}
use Rattle.serde_json.specs.Data.{array}
use Rattle.serde_json.specs.View.{items_of}
use Rattle.fedi_collections.proofs.Adding.{added_as}
use Rattle.fedi_collections.proofs.DocumentParts.{page_parts}
use Rattle.fedi_collections.specs.Items.{excerpt_form}
use Rattle.fedi_collections.specs.Members.{page_end}
use Rattle.fedi_objects.proofs.Additions.{then}
use Rattle.fedi_objects.specs.Writing.{Adds, IsWritten}
use Rattle.fedi_collections.proofs.pages.PageDraft.write_in.Goals as goal

pub returns : goal.returns
returns c =
    let p = c.args.self.now in
    on_ok_weaker c.end_page.result
    (λ ended. subst (λ ts. Adds ts c.args.out.now c.end_page.new.out) (page_parts p.address p.number p.total (map excerpt_form p.excerpts.items))
    (then c.in_ok-begin_page.ensures.written
    (then (subst (λ xs. IsWritten (array (items_of (map excerpt_form xs))) c.begin_page.new.out c.write_excerpts.new.out) c.as_slice.ensures.value c.in_ok-write_excerpts.ensures)
    (added_as (λ i. page_end i p.number p.total) _ p.address c.in_ok-begin_page.ensures.same ended))))
    c.end_page.ensures
