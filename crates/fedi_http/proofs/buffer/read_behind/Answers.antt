use Rattle.std.proofs.Common.{arith}
use Rattle.fedi_http.proofs.PartLemmas.{part-kept, reads_behind}
use Rattle.fedi_http.proofs.buffer.read_behind.Goals as goal

pub returns-in-Ok-eq0-clause-kept : goal.returns-in-Ok-eq0-clause-kept
returns-in-Ok-eq0-clause-kept g c = part-kept c.args.bytes.now _ c.args.start c.args.count (omega arith)

pub returns-in-Ok-clause-kept : goal.returns-in-Ok-clause-kept
returns-in-Ok-clause-kept g c = part-kept c.args.bytes.now _ c.args.start c.args.count (omega arith)

pub returns-in-Ok-clause-read : goal.returns-in-Ok-clause-read
returns-in-Ok-clause-read g c =
    let told = c.in-Ok.ensures in
    reads_behind _ _ c.args.bytes.now c.read.new.into _ c.args.start c.args.count c.in-Ok.more (omega arith) told.bound.0 told.bytes.0

pub returns-in-Err-clause-kept : goal.returns-in-Err-clause-kept
returns-in-Err-clause-kept g c = part-kept c.args.bytes.now _ c.args.start c.args.count (omega arith)
