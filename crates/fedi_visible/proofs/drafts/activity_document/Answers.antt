use Rattle.std.proofs.Common.{true}
use Rattle.fedi_objects.specs.Forms.{activity_form, shown_in}
use Rattle.fedi_objects.proofs.Additions.{document}
use Rattle.fedi_visible.proofs.drafts.activity_document.Goals as goal

pub returns : goal.returns
returns c =
    let s = c.args.shown.now in
    c.document_reply.ensures (activity_form s.local true s.author.now (shown_in s)) (document c.in_ok-out.ensures.tokens c.in_ok-out.ensures.before c.in_ok-write_activity.ensures)
