use Rattle.fedi_http.proofs.chunks.read_body.Goals as goal

pub returns-in-Chunked-clause-reads : goal.returns-in-Chunked-clause-reads
returns-in-Chunked-clause-reads g c = rw c.in-Chunked.is c.read_chunks.ensures.reads
