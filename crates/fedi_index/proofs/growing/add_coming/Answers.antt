use Rattle.fedi_index.proofs.Coming.{all_sent_on, may_go_there, none_sent_on, room_there}
use Rattle.fedi_index.proofs.growing.add_coming.Goals as goal

pub add_to_inbox-requires-clause-room : goal.add_to_inbox-requires-clause-room
add_to_inbox-requires-clause-room c = room_there c.args.facts.now c.in-Some.id.now c.in-Some.owner.now c.args.lists.now (rw c.in-Some.is at c.coming_inbox.ensures) c.requires.inbox_room

pub add_to_inbox-requires-clause-may_go : goal.add_to_inbox-requires-clause-may_go
add_to_inbox-requires-clause-may_go c = may_go_there c.args.facts.now c.in-Some.id.now c.in-Some.owner.now (rw c.in-Some.is at c.coming_inbox.ensures) c.requires.may_come

pub returns-in-Some : goal.returns-in-Some
returns-in-Some c =
    all_sent_on c.args.facts.now c.in-Some.id.now c.in-Some.owner.now c.args.facts.now.town.host c.add_to_inbox.new.lists (rw c.in-Some.is at c.coming_inbox.ensures) c.add_to_inbox.ensures

pub returns-in-None : goal.returns-in-None
returns-in-None c = none_sent_on c.args.facts.now c.args.facts.now.town.host c.add_acts.new.lists (rw c.in-None.is at c.coming_inbox.ensures) c.add_acts.ensures
