use Rattle.std.proofs.Common.{◌+◌, Some, take}
use Rattle.fedi_index.specs.declared.collection.Collection.TheVariants.{Inbox}
use Rattle.fedi_index.specs.Growing.{is_inbox, is_one}
use Rattle.fedi_index.proofs.Added.{inbox_taken}
use Rattle.fedi_index.proofs.Found.{roomier_itself, roomier_then}
use Rattle.fedi_index.proofs.Rooms.{room_later, room_of_both, room_of_no_inbox, room_same}
use Rattle.fedi_index.proofs.growing.reserve_inboxes.Goals as goal

pub loop-recipient-init : goal.loop-recipient-init
loop-recipient-init c = (roomier_itself c.args.lists.now, room_of_no_inbox c.args.facts.now.town.host 2 c.args.lists.now)

pub loop-recipient-preserved : goal.loop-recipient-preserved
loop-recipient-preserved c =
    let host = c.args.facts.now.town.host in
    let all = c.args.recipients.now in
    let i = c.loop-recipient.recipient-index in
    let owner = c.recipient-item.result in
    let before = is_inbox host (take i all) in (
      roomier_then c.args.lists.now c.loop-recipient.lists _ c.loop-recipient.invariant.0 c.in_ok-reserve_one.ensures.roomier,
      room_same _ (is_inbox host (take (i + 1) all)) 2 _ (inbox_taken host all i owner c.loop-recipient-test.true c.recipient-item.is)
          (room_of_both before (is_one host (Some Inbox) (Some owner)) 2 _ (room_later before 2 c.loop-recipient.lists _ c.in_ok-reserve_one.ensures.roomier c.loop-recipient.invariant.1) c.in_ok-reserve_one.ensures.room),
    )
