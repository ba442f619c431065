use Rattle.std.proofs.Common.{◌≡◌, Some, ◌∙◌}
use Rattle.fedi_town.specs.Towns.{id_of}
use Rattle.fedi_index.proofs.Shelved.{pins_of_member}
use Rattle.fedi_index.proofs.shelf.IndexedShelf.pins_by.Goals as goal

pub returns : goal.returns
returns c =
    let known : id_of c.self.inside.facts.town c.args.name.now ≡ Some c.args.member.now = rw (← c.self.view_is) at c.requires in
    c.places.ensures
    ∙ rw (c.text.ensures.value, ← c.self.view_is) (pins_of_member c.self.inside.facts c.self.inside.lists c.args.name.now c.args.member.now c.self.invariant known)
