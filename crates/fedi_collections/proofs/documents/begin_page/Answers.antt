use Rattle.std.proofs.Common.{codes}
use Rattle.json.specs.Token.{Token}
use Rattle.fedi_model.specs.Documents.{page_id}
use Rattle.fedi_collections.proofs.Adding.{added_as, one_added, then_added}
use Rattle.fedi_collections.specs.Members.{document_start, next_member, page_start, text_member}
use Rattle.fedi_collections.proofs.documents.begin_page.Goals as goal

pub returns-clause-written : goal.returns-clause-written
unfolding page_start
returns-clause-written c =
    let id = c.args.address.now in
    then_added document_start _ _ c.in_ok-begin_document.ensures _
    (then_added (text_member (codes "id") (page_id id c.args.number)) _ _ c.in_ok-write_page.ensures.written _
    (then_added (next_member id c.args.number) _ _
    (added_as (λ i. next_member i c.args.number) _ id c.in_ok-write_page.ensures.same c.in_ok-write_next.ensures.written) _
    (one_added (Token.key (codes "orderedItems")) c.key.result c.key.ensures)))
