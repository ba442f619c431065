use Rattle.std.proofs.Common.{◌≡◌, Some, ◌∙◌}
use Rattle.fedi_town.specs.Collections.{owner_of}
use Rattle.fedi_index.proofs.Shelved.{candidates_of}
use Rattle.fedi_index.proofs.shelf.IndexedShelf.candidates.Goals as goal

pub returns : goal.returns
returns c =
    let owned : owner_of c.self.inside.facts.town c.args.which.now ≡ Some c.args.owner.now = rw (← c.self.view_is) at c.requires in
    c.places.ensures
    ∙ rw (c.of.ensures, c.text.ensures.value, ← c.self.view_is) (candidates_of c.self.inside.facts c.self.inside.lists c.args.which.now c.args.owner.now c.self.invariant c.is_named.ensures owned)
