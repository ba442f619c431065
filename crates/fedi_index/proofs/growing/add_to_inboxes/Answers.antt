use Rattle.std.proofs.Common.{◌+◌, Some, take}
use Rattle.fedi_index.specs.declared.collection.Collection.TheVariants.{Inbox}
use Rattle.fedi_index.specs.Growing.{is_inbox, is_one}
use Rattle.fedi_index.proofs.Added.{can_part, can_still, inbox_part, inbox_taken, no_inbox_added, once_same, once_then}
use Rattle.fedi_index.proofs.growing.add_to_inboxes.Goals as goal

pub loop-recipient-init : goal.loop-recipient-init
loop-recipient-init c = no_inbox_added c.args.facts.now.town.host c.args.place c.args.lists.now

pub add_one-requires : goal.add_one-requires
add_one-requires c =
    let host = c.args.facts.now.town.host in
    let all = c.args.recipients.now in
    let i = c.loop-recipient.recipient-index in
    let owner = c.recipient-item.result in
    can_part (is_one host (Some Inbox) (Some owner)) (is_inbox host all) c.args.place c.loop-recipient.lists (inbox_part host all i owner c.loop-recipient-test.true c.recipient-item.is)
    (can_still (is_inbox host (take i all)) (is_inbox host all) c.args.place c.args.lists.now c.loop-recipient.lists c.loop-recipient.invariant c.requires)

pub loop-recipient-preserved : goal.loop-recipient-preserved
loop-recipient-preserved c =
    let host = c.args.facts.now.town.host in
    let all = c.args.recipients.now in
    let i = c.loop-recipient.recipient-index in
    let owner = c.recipient-item.result in
    once_same _ (is_inbox host (take (i + 1) all)) c.args.place c.args.lists.now _ (inbox_taken host all i owner c.loop-recipient-test.true c.recipient-item.is)
    (once_then (is_inbox host (take i all)) (is_one host (Some Inbox) (Some owner)) c.args.place c.args.lists.now c.loop-recipient.lists _ c.loop-recipient.invariant c.add_one.ensures)
