use Rattle.std.proofs.Common.{◌≡◌, Some, arith, sym, ◌∙◌}
use Rattle.std.proofs.lemmas.List.{length-map}
use Rattle.fedi_index.specs.Lists.{at_index, first_from, is_list, listing_in, listings}
use Rattle.fedi_index.proofs.Found.{first-within, grown_marks, index_there, none_room, one_added, room_there}
use Rattle.fedi_index.proofs.lists.Lists.insert.Goals as goal

pub unreachable-requires : goal.unreachable-requires
unreachable-requires c =
    none_room c.args.collection c.args.owner.now (listings c.self.inside.rows.items) (rw (← c.self.view_is) at c.requires.room)
    (rw (← c.deref.ensures.value, ← c.text.ensures.value, ← c.position_of.ensures) c.in-None.is)

pub insert_at-requires-clause-there : goal.insert_at-requires-clause-there
insert_at-requires-clause-there c =
    let first : first_from (is_list c.args.collection c.args.owner.now) 0 (listings c.self.inside.rows.items) ≡ Some c.in-Some.at = rw (← c.deref.ensures.value, ← c.text.ensures.value, ← c.position_of.ensures) c.in-Some.is in
    let h = first-within (is_list c.args.collection c.args.owner.now) 0 c.in-Some.at (listings c.self.inside.rows.items) first in
    omega (arith, h.1, length-map c.self.inside.rows.items listing_in)

pub insert_at-requires-clause-room : goal.insert_at-requires-clause-room
insert_at-requires-clause-room c =
    room_there c.args.collection c.args.owner.now (listings c.self.inside.rows.items) c.in-Some.at (rw (← c.self.view_is) at c.requires.room) (rw (← c.deref.ensures.value, ← c.text.ensures.value, ← c.position_of.ensures) c.in-Some.is)

pub insert_at-requires-clause-index : goal.insert_at-requires-clause-index
insert_at-requires-clause-index c =
    index_there c.args.collection c.args.owner.now (listings c.self.inside.rows.items) c.in-Some.at c.args.index (rw (← c.self.view_is) at c.requires.index)
    (rw (← c.deref.ensures.value, ← c.text.ensures.value, ← c.position_of.ensures) c.in-Some.is)

pub invariant_of-self : goal.invariant_of-self
invariant_of-self c = c.self.invariant ∙ rw c.insert_at.ensures (sym (grown_marks c.self.inside.seed c.in-Some.at (at_index c.args.index c.args.place) 0 (listings c.self.inside.rows.items)))

pub returns : goal.returns
returns c =
    rw (← c.self.view_is, c.insert_at.ensures)
    (one_added c.args.collection c.args.owner.now (at_index c.args.index c.args.place) c.in-Some.at (listings c.self.inside.rows.items) (rw (← c.deref.ensures.value, ← c.text.ensures.value, ← c.position_of.ensures) c.in-Some.is))
