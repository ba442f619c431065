use Rattle.fedi_address.proofs.Urls.{normal-IsIri}
use Rattle.fedi_address.proofs.iri.Iri.text.Goals as goal

pub returns-clause-normal : goal.returns-clause-normal
returns-clause-normal c = rw (← c.self.view_is) (normal-IsIri _ c.self.invariant)
