use Rattle.std.proofs.Common.{ap, ◌∙◌}
use Rattle.fedi_index.specs.Growing.{is_kept, list_of_author, list_of_other}
use Rattle.fedi_index.proofs.Added.{all_added, can_add_inboxes, can_add_other, can_add_outbox, can_add_own, can_still}
use Rattle.fedi_index.proofs.growing.add_to_each.Goals as goal

pub add_one-requires : goal.add_one-requires
add_one-requires c = can_add_outbox c.args.facts.now.town.host c.args.act.now _ c.args.place c.args.lists.now c.author-author.ensures c.requires

pub add_some-requires : goal.add_some-requires
add_some-requires c =
    let host = c.args.facts.now.town.host in
    let x = c.args.act.now in
    can_add_own host x _ _ c.args.place c.add_one.new.lists c.author-author.ensures (c.list_of_author.ensures ∙ ap list_of_author c.kind.ensures)
    (can_still _ (λ k o. is_kept host k o x) c.args.place c.args.lists.now c.add_one.new.lists c.add_one.ensures c.requires)

pub add_some-requires-2 : goal.add_some-requires-2
add_some-requires-2 c =
    let host = c.args.facts.now.town.host in
    let x = c.args.act.now in
    let first = can_still _ (λ k o. is_kept host k o x) c.args.place c.args.lists.now c.add_one.new.lists c.add_one.ensures c.requires in
    can_add_other host x _ _ c.args.place c.add_some.new.lists c.other_owner.ensures (c.list_of_other.ensures ∙ ap list_of_other c.kind-2.ensures)
    (can_still _ (λ k o. is_kept host k o x) c.args.place c.add_one.new.lists c.add_some.new.lists c.add_some.ensures first)

pub add_to_inboxes-requires : goal.add_to_inboxes-requires
add_to_inboxes-requires c =
    let host = c.args.facts.now.town.host in
    let x = c.args.act.now in
    let first = can_still _ (λ k o. is_kept host k o x) c.args.place c.args.lists.now c.add_one.new.lists c.add_one.ensures c.requires in
    let second = can_still _ (λ k o. is_kept host k o x) c.args.place c.add_one.new.lists c.add_some.new.lists c.add_some.ensures first in
    can_add_inboxes host x _ c.args.place c.add_some-2.new.lists c.recipients.ensures
    (can_still _ (λ k o. is_kept host k o x) c.args.place c.add_some.new.lists c.add_some-2.new.lists c.add_some-2.ensures second)

pub returns : goal.returns
returns c =
    all_added c.args.facts.now.town.host c.args.act.now _ _ _ _ _ c.args.place c.args.lists.now c.add_one.new.lists c.add_some.new.lists c.add_some-2.new.lists c.add_to_inboxes.new.lists
    (record {
      by = c.author-author.ensures;
      its = c.list_of_author.ensures ∙ ap list_of_author c.kind.ensures;
      theirs = c.list_of_other.ensures ∙ ap list_of_other c.kind-2.ensures;
      of = c.other_owner.ensures;
      sent = c.recipients.ensures;
    })
    c.add_one.ensures c.add_some.ensures c.add_some-2.ensures c.add_to_inboxes.ensures
