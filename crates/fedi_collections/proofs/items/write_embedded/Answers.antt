use Rattle.std.proofs.Common.{false, ap, subst, ◌∙◌}
use Rattle.std.proofs.lemmas.Result.{on_ok_weaker}
use Rattle.fedi_objects.specs.Forms.{activity_form}
use Rattle.fedi_model.specs.Documents.{embedded_form}
use Rattle.fedi_town.specs.Showing.{shown_activity}
use Rattle.fedi_objects.specs.Writing.{IsWritten}
use Rattle.fedi_collections.proofs.items.write_embedded.Goals as goal

pub returns : goal.returns
unfolding embedded_form
returns c =
    let t = c.args.facts.now.town in
    let x = c.args.act.now in
    let shown = c.shown_of.result in
    on_ok_weaker c.write_activity.result
    (λ written. subst (λ d. IsWritten d c.args.out.now c.write_activity.new.out)
    (c.shown_of.ensures.form shown.local false ∙ ap (λ l. activity_form l false x.author (shown_activity t x)) c.shown_of.ensures.local) written)
    c.write_activity.ensures
