use Rattle.std.proofs.Common.{◌≡◌, Some, arith, sym, ◌∙◌}
use Rattle.std.proofs.lemmas.List.{length-map}
use Rattle.fedi_index.specs.Lists.{first_from, is_list, listing_in, listings}
use Rattle.fedi_index.proofs.Found.{first-within, roomier, roomier_first, roomier_marks, roomier_then, room_given}
use Rattle.fedi_index.proofs.lists.Lists.reserve.Goals as goal

pub reserve_at-requires : goal.reserve_at-requires
reserve_at-requires c =
    let ls = listings c.self.inside.rows.items in
    let first : first_from (is_list c.args.collection c.args.owner.now) 0 ls ≡ Some c.in_ok-at.at = rw (← c.self.view_is) at c.in_ok-at.ensures.known in
    let h = first-within (is_list c.args.collection c.args.owner.now) 0 c.in_ok-at.at ls first in
    record { there = omega (arith, h.1, length-map c.self.inside.rows.items listing_in) }

pub invariant_of-self : goal.invariant_of-self
invariant_of-self c = c.self.invariant ∙ sym (roomier_marks c.self.inside.seed 0 (listings c.self.inside.rows.items) _ c.reserve_at.ensures.roomier)

pub invariant_of-self-2 : goal.invariant_of-self-2
invariant_of-self-2 c = c.self.invariant ∙ sym (roomier_marks c.self.inside.seed 0 (listings c.self.inside.rows.items) _ c.reserve_at.ensures.roomier)

pub returns-in_err-reserve_at-clause-roomier : goal.returns-in_err-reserve_at-clause-roomier
returns-in_err-reserve_at-clause-roomier c =
    roomier_then c.args.self.now c.find_or_add.new.self _ c.in_ok-at.ensures.roomier (rw (← c.self.view_is) (roomier (listings c.self.inside.rows.items) _ c.reserve_at.ensures.roomier))

pub returns-clause-roomier : goal.returns-clause-roomier
returns-clause-roomier c =
    roomier_then c.args.self.now c.find_or_add.new.self _ c.in_ok-at.ensures.roomier (rw (← c.self.view_is) (roomier (listings c.self.inside.rows.items) _ c.reserve_at.ensures.roomier))

pub returns-clause-room : goal.returns-clause-room
returns-clause-room c =
    let ls = listings c.self.inside.rows.items in
    let first : first_from (is_list c.args.collection c.args.owner.now) 0 ls ≡ Some c.in_ok-at.at = rw (← c.self.view_is) at c.in_ok-at.ensures.known in
    room_given c.args.collection c.args.owner.now _ c.in_ok-at.at c.args.more
    (roomier_first c.args.collection c.args.owner.now 0 ls _ c.reserve_at.ensures.roomier ∙ first) c.in_ok-reserve_at.ensures.room
