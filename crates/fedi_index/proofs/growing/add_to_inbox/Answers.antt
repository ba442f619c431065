use Rattle.std.proofs.Common.{sym, ◌∙◌}
use Rattle.fedi_index.specs.declared.collection.Collection.TheVariants.{Inbox}
use Rattle.fedi_index.specs.Growing.{is_kept}
use Rattle.fedi_index.proofs.Inboxes.{inbox_added, nothing_changed, places_ordered}
use Rattle.fedi_index.proofs.growing.add_to_inbox.Goals as goal

pub count_below-index-requires : goal.count_below-index-requires
count_below-index-requires c =
    rw (c.places.ensures, c.text.ensures.value, c.requires.candidates.places Inbox c.args.owner.now) (places_ordered (is_kept c.args.facts.now.town.host Inbox c.args.owner.now) 0 c.args.facts.now.town.acts)

pub insert-requires-clause-index : goal.insert-requires-clause-index
insert-requires-clause-index c = rw (c.places.ensures, c.text.ensures.value) at c.count_below-index.ensures.few

pub returns-in-Some : goal.returns-in-Some
returns-in-Some c =
    inbox_added c.args.facts.now.town c.args.id.now c.args.owner.now c.in-Some.place c.count_below-index.result c.args.lists.now c.insert.new.self c.requires.may_go
    (sym c.position_of.ensures ∙ c.in-Some.is) (rw (c.places.ensures, c.text.ensures.value) at c.count_below-index.ensures.ordered) c.insert.ensures c.requires.candidates

pub returns-in-None : goal.returns-in-None
returns-in-None c = nothing_changed c.args.facts.now.town c.args.id.now c.args.owner.now c.args.lists.now (sym c.position_of.ensures ∙ c.in-None.is) c.requires.candidates
