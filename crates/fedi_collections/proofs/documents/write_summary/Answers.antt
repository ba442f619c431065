use Rattle.std.proofs.Common.{OnOk, codes, subst, ◌∙◌}
use Rattle.fedi_collections.proofs.Adding.{added_as, then_added}
use Rattle.fedi_collections.proofs.DocumentParts.{summary_parts}
use Rattle.fedi_collections.specs.Members.{document_start, first_member, last_member, text_member, total_member}
use Rattle.fedi_objects.specs.Writing.{Adds}
use Rattle.fedi_collections.proofs.documents.write_summary.Goals as goal

pub returns : goal.returns
returns c =
    let id = c.args.address.now in
    let same = c.in_ok-write_first.ensures.same in
    subst (λ ts. OnOk c.end_document.result (Adds ts c.args.out.now c.end_document.new.out)) (summary_parts id c.args.total)
    (then_added document_start _ _ c.in_ok-begin_document.ensures _
    (then_added (first_member id c.args.total) _ _ c.in_ok-write_first.ensures.written _
    (then_added (text_member (codes "id") id) _ _ (added_as (text_member (codes "id")) _ id (c.id.ensures ∙ same) c.in_ok-write_str.ensures) _
    (then_added (last_member id c.args.total) _ _ (added_as (λ i. last_member i c.args.total) _ id same c.in_ok-write_last.ensures.written) _
    (then_added (total_member c.args.total) _ _ c.in_ok-write_total.ensures _ c.end_document.ensures)))))
