use Rattle.std.proofs.Common.{ap}
use Rattle.fedi_index.proofs.Listed.{page_places, page_total}
use Rattle.fedi_index.proofs.shelf.IndexedShelfShelf.visible_page.Goals as goal

pub returns-clause-total : goal.returns-clause-total
returns-clause-total g c =
    page_total c.self.inside.facts.town c.args.self.now.town c.args.caller.now c.args.which.now c.args.owner.now c.page.result.total c.candidates-candidates.result.now
    (ap (λ h. h.town) c.self.view_is) c.candidates-candidates.ensures c.page.ensures.total

pub returns-clause-places : goal.returns-clause-places
returns-clause-places g c =
    page_places c.self.inside.facts.town c.args.self.now.town c.args.caller.now c.args.which.now c.args.owner.now c.args.number c.page.result.places.items c.candidates-candidates.result.now
    (ap (λ h. h.town) c.self.view_is) c.candidates-candidates.ensures c.page.ensures.places
