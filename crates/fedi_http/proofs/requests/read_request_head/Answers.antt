use Rattle.std.proofs.Common.{rules}
use Rattle.fedi_http.proofs.RequestLemmas.{memory_wanted}
use Rattle.fedi_http.proofs.requests.read_request_head.Goals as goal

pub returns-in-Some-clause-memory : goal.returns-in-Some-clause-memory
returns-in-Some-clause-memory c =
    let h = c.in-Some.ensures.head in
    memory_wanted _ c.args.text.now h.0 _ c.request_at.result c.request_at.ensures.memory (search rules) (search rules) h.1
