use Rattle.std.proofs.Common.{codes, subst}
use Rattle.fedi_town.specs.Collections.{highest}
use Rattle.fedi_collections.proofs.Adding.{added_as, then_added}
use Rattle.fedi_collections.specs.Members.{page_end, prev_member, text_member}
use Rattle.fedi_objects.specs.Writing.{Adds}
use Rattle.fedi_collections.proofs.documents.end_page.Goals as goal

pub returns : goal.returns
unfolding page_end
returns c =
    let id = c.args.address.now in
    then_added (text_member (codes "partOf") id) _ _ (added_as (text_member (codes "partOf")) _ id c.id.ensures c.in_ok-write_str.ensures) _
    (then_added (prev_member id c.args.number (highest c.args.total)) _ _
    (subst (λ top. Adds (prev_member id c.args.number top) c.write_str.new.out c.write_prev.new.out) c.highest_page.ensures c.in_ok-write_prev.ensures.written) _
    c.end_document.ensures)
