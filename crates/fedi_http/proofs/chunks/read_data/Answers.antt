use Rattle.std.proofs.Common.{◌<◌, ◌++◌, length, inl}
use Rattle.fedi_http.specs.Chunks.{HasPartOfData, IsPartOfCrlf}
use Rattle.fedi_http.specs.Moves.{has_fault}
use Rattle.fedi_http.specs.Readings.{HasContent, IsCrlfRead, IsDataRead}
use Rattle.fedi_http.proofs.ChunkLemmas.{data_part, data_read}
use Rattle.fedi_http.proofs.ReadLemmas.{reads_on}
use Rattle.fedi_http.proofs.chunks.read_data.Goals as goal

pub returns-clause-reads : goal.returns-clause-reads
returns-clause-reads g c =
    let old = c.args.buffer.now in
    let mid = c.read_content.new.buffer in
    let new = c.read_crlf.new.buffer in
    reads_on g.S.Source.left g.S.Source.read_faults g.S.Source.beside_source _ _ _ (has_fault c.read_crlf.result) old.pending
    (length old.pending < c.args.size) (IsPartOfCrlf mid.pending) (HasPartOfData c.args.size old.pending)
    (λ bytes. HasContent c.args.size bytes old mid) (λ n. IsCrlfRead (mid.pending ++ n) c.read_crlf.result new.pending) (λ bytes. IsDataRead c.args.size bytes c.read_crlf.result old new)
    c.in_ok-read_content.ensures.reads c.read_crlf.ensures.reads (λ short. inl short)
    (λ has part. data_part c.args.size old.pending old mid has part)
    (λ bytes n has read. data_read c.args.size bytes n c.read_crlf.result old mid new has c.read_crlf.ensures.body read)
