use Rattle.std.proofs.Common.{false, ap, subst, ◌∙◌}
use Rattle.std.proofs.lemmas.Result.{on_ok_weaker}
use Rattle.fedi_objects.specs.Forms.{activity_form, shown_in}
use Rattle.fedi_objects.specs.Writing.{IsWritten}
use Rattle.fedi_collections.proofs.items.write_excerpt.Goals as goal

pub returns : goal.returns
returns c =
    let e = c.args.excerpt.now in
    let s = c.shown.result in
    on_ok_weaker c.write_activity.result
    (λ written. subst (λ d. IsWritten d c.args.out.now c.write_activity.new.out)
    (ap (λ local. activity_form local false s.author.now (shown_in s)) c.shown.ensures.local
    ∙ ap (λ by. activity_form e.local false by (shown_in s)) c.shown.ensures.author
    ∙ ap (λ a. activity_form e.local false e.author a) c.shown.ensures.shown) written)
    c.write_activity.ensures
