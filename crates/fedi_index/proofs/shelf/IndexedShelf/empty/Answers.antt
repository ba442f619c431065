use Rattle.fedi_index.proofs.Shelved.{nothing_shelved}
use Rattle.fedi_index.proofs.shelf.IndexedShelf.empty.Goals as goal

pub invariant_of-result : goal.invariant_of-result
invariant_of-result c = rw (c.in_ok-facts.ensures, c.empty-2.ensures) nothing_shelved
