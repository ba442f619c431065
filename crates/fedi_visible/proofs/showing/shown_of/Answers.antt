use Rattle.std.proofs.Common.{ap, ◌∙◌}
use Rattle.fedi_objects.specs.declared.activity.ObjectRef.{ObjectRef}
use Rattle.fedi_town.specs.Showing.{shown_activity}
use Rattle.fedi_visible.proofs.ShownForms.{shown_form}
use Rattle.fedi_visible.specs.Excerpts.{shown_with}
use Rattle.fedi_visible.proofs.showing.shown_of.Goals as goal

pub returns-clause-shown : goal.returns-clause-shown
unfolding shown_activity
returns-clause-shown c = c.show.ensures.shown ∙ ap (λ (o : ObjectRef). shown_with c.args.act.now o) c.shown_object.ensures

pub returns-clause-form : goal.returns-clause-form
unfolding shown_activity
returns-clause-form c =
    shown_form c.args.facts.now.town c.args.act.now c.show.result
    (c.show.ensures.shown ∙ ap (λ (o : ObjectRef). shown_with c.args.act.now o) c.shown_object.ensures)
    c.show.ensures.author
