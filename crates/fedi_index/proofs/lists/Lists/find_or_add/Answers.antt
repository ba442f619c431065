use Rattle.std.proofs.Common.{◌≡◌, ℕ, ◌+◌, arith, None, Some, ap, length, ◌∙◌}
use Rattle.fedi_index.specs.Lists.{first_from, is_list, listings}
use Rattle.fedi_index.proofs.Found.{new_first, new_roomier}
use Rattle.fedi_index.proofs.lists.Lists.find_or_add.Goals as goal

pub returns-in_ok-at-in-None-clause-roomier : goal.returns-in_ok-at-in-None-clause-roomier
returns-in_ok-at-in-None-clause-roomier c = rw c.in_ok-at-in-None.ensures.added.0 (new_roomier c.args.self.now c.args.collection c.args.owner.now)

pub returns-in_ok-at-in-None-clause-known : goal.returns-in_ok-at-in-None-clause-known
returns-in_ok-at-in-None-clause-known c =
    let none : first_from (is_list c.args.collection c.args.owner.now) 0 (listings c.self.inside.rows.items) ≡ None = rw (← c.deref.ensures.value, ← c.text.ensures.value, ← c.position_of.ensures) c.in-None.is in
    let from_none : 0 + length (listings c.self.inside.rows.items) ≡ length (listings c.self.inside.rows.items) = omega arith in
    rw (c.in_ok-at-in-None.ensures.added.0, c.in_ok-at-in-None.ensures.added.1, ← c.self.view_is) (new_first c.args.collection c.args.owner.now 0 (listings c.self.inside.rows.items) none ∙ ap (λ (n : ℕ). Some n) from_none)
