use Rattle.std.proofs.Common.{◌≡◌, Some}
use Rattle.fedi_index.proofs.Shelved.{entry_pushed, may_come_in}
use Rattle.fedi_index.proofs.shelf.IndexedShelfShelf.push.Goals as goal

pub invariant_of-self : goal.invariant_of-self
invariant_of-self c =
    let room : c.self.inside.facts.room ≡ Some c.args.entry.now = rw (← c.self.view_is) at c.requires in
    entry_pushed c.self.inside.facts c.apply.new.self c.args.entry.now c.self.inside.lists c.add_coming.new.lists c.self.invariant room c.apply.ensures c.add_coming.ensures

pub add_coming-requires-clause-may_come : goal.add_coming-requires-clause-may_come
add_coming-requires-clause-may_come c = may_come_in c.self.inside.facts c.self.inside.lists c.self.invariant
