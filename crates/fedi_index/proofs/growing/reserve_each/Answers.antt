use Rattle.std.proofs.Common.{ap, ◌∙◌}
use Rattle.fedi_index.specs.Growing.{list_of_author, list_of_other}
use Rattle.fedi_index.proofs.Rooms.{all_room}
use Rattle.fedi_index.proofs.growing.reserve_each.Goals as goal

pub returns-clause-room : goal.returns-clause-room
returns-clause-room c =
    all_room c.args.facts.now.town.host c.args.act.now _ _ _ _ _ 2 c.reserve_one.new.lists c.reserve_some.new.lists c.reserve_some-2.new.lists c.reserve_inboxes.new.lists
    (record {
      by = c.author-author.ensures;
      its = c.list_of_author.ensures ∙ ap list_of_author c.kind.ensures;
      theirs = c.list_of_other.ensures ∙ ap list_of_other c.kind-2.ensures;
      of = c.other_owner.ensures;
      sent = c.recipients.ensures;
    })
    c.in_ok-reserve_one.ensures.room c.in_ok-reserve_some.ensures.room c.in_ok-reserve_some-2.ensures.room c.in_ok-reserve_inboxes.ensures.room
    c.in_ok-reserve_some.ensures.roomier c.in_ok-reserve_some-2.ensures.roomier c.in_ok-reserve_inboxes.ensures.roomier
