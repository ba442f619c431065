use Rattle.fedi_demo.proofs.VisitLemmas.{calm_store, closed_store, founding_some}
use Rattle.fedi_demo.specs.Demonstrating.{founding}
use Rattle.fedi_demo.proofs.demonstrating.found.Goals as goal

pub returns : goal.returns
returns c = calm_store c.calm.result founding c.close_store.result c.calm.ensures
    (λ none. closed_store founding c.close_store.result _ _ c.in_ok-settle.ensures.founded founding_some
    c.in_ok-settle.ensures.settled c.close_store.ensures.closed none)
