use Rattle.std.proofs.Common.{◌≡◌, Some, arith, sym, ◌∙◌}
use Rattle.std.proofs.lemmas.List.{length-map}
use Rattle.fedi_index.specs.Lists.{first_from, is_list, listing_in, listings}
use Rattle.fedi_index.proofs.Found.{first-within}
use Rattle.fedi_index.proofs.Pushed.{can_add_at, none_can_add, pushed_marks, pushed_once}
use Rattle.fedi_index.proofs.lists.Lists.push_unless_last.Goals as goal

pub unreachable-requires : goal.unreachable-requires
unreachable-requires c =
    none_can_add c.args.collection c.args.owner.now c.args.place (listings c.self.inside.rows.items) (rw (← c.self.view_is) at c.requires)
    (rw (← c.deref.ensures.value, ← c.text.ensures.value, ← c.position_of.ensures) c.in-None.is)

pub push_at-requires-clause-there : goal.push_at-requires-clause-there
push_at-requires-clause-there c =
    let first : first_from (is_list c.args.collection c.args.owner.now) 0 (listings c.self.inside.rows.items) ≡ Some c.in-Some.at =
    rw (← c.deref.ensures.value, ← c.text.ensures.value, ← c.position_of.ensures) c.in-Some.is in
    let h = first-within (is_list c.args.collection c.args.owner.now) 0 c.in-Some.at (listings c.self.inside.rows.items) first in
    omega (arith, h.1, length-map c.self.inside.rows.items listing_in)

pub push_at-requires-clause-room : goal.push_at-requires-clause-room
push_at-requires-clause-room c =
    can_add_at c.args.collection c.args.owner.now c.args.place c.in-Some.at (listings c.self.inside.rows.items) (rw (← c.self.view_is) at c.requires)
    (rw (← c.deref.ensures.value, ← c.text.ensures.value, ← c.position_of.ensures) c.in-Some.is)

pub invariant_of-self : goal.invariant_of-self
invariant_of-self c = c.self.invariant ∙ rw c.push_at.ensures (sym (pushed_marks c.self.inside.seed c.in-Some.at c.args.place 0 (listings c.self.inside.rows.items)))

pub returns : goal.returns
returns c =
    rw (← c.self.view_is, c.push_at.ensures)
    (pushed_once c.args.collection c.args.owner.now c.args.place c.in-Some.at (listings c.self.inside.rows.items)
    (rw (← c.deref.ensures.value, ← c.text.ensures.value, ← c.position_of.ensures) c.in-Some.is))
