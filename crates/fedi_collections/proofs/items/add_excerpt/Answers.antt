use Rattle.std.proofs.Common.{◌≤◌, false, Some, ap, map, subst, ◌∙◌}
use Rattle.fedi_model.specs.Documents.{embedded_form}
use Rattle.fedi_town.specs.Addressing.{is_of_town}
use Rattle.fedi_town.specs.Showing.{shown_activity}
use Rattle.fedi_visible.proofs.ShownForms.{actor_unseen}
use Rattle.fedi_collections.specs.Items.{excerpt_form}
use Rattle.fedi_collections.proofs.ItemTokens.{form_added, no_form_past}
use Rattle.fedi_collections.proofs.items.add_excerpt.Goals as goal

pub returns-in_ok-push-clause-added : goal.returns-in_ok-push-clause-added
unfolding embedded_form
returns-in_ok-push-clause-added g c =
    let t = c.args.facts.now.town in
    let x = c.shown.result.now in
    form_added (embedded_form t) excerpt_form t.acts c.args.place x c.args.excerpts.now.items c.push.new.self.items c.in_ok-excerpt.excerpt
    c.shown.ensures.act
    (ap excerpt_form c.in_ok-excerpt.ensures ∙ actor_unseen (is_of_town t.host x.author) false x.author (shown_activity t x) (Some x.author))
    c.in_ok-push.ensures.items

pub returns-else-place-activities-clause-added : goal.returns-else-place-activities-clause-added
returns-else-place-activities-clause-added g c =
    let t = c.args.facts.now.town in
    no_form_past (embedded_form t) t.acts c.args.place (map excerpt_form c.args.excerpts.now.items)
    (subst (λ count. count ≤ c.args.place) c.activities.ensures.value c.if-place-activities.false)
