use Rattle.std.proofs.Common.{ℕ, true, ap, ◌∙◌}
use Rattle.fedi_objects.specs.Forms.{object_form}
use Rattle.fedi_objects.proofs.Additions.{document}
use Rattle.fedi_model.specs.declared.reply.Form.TheVariants as forms
use Rattle.fedi_model.specs.Replies.{showing}
use Rattle.fedi_visible.proofs.ShownForms.{object_shown}
use Rattle.fedi_visible.proofs.drafts.object_document.Goals as goal

pub returns : goal.returns
returns c =
    let o = c.args.object.now in
    let d = object_form true true o in
    c.document_reply.ensures d (document c.in_ok-out.ensures.tokens c.in_ok-out.ensures.before c.in_ok-write_object.ensures)
    ∙ ap (λ (status : ℕ). showing status forms.Activity d) c.status_of.ensures ∙ object_shown o
