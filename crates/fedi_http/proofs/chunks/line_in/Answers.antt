use Rattle.std.proofs.Common.{arith, refl, inl, inr, length-take}
use Rattle.httparse.specs.Grammar.{HasNoChunkLine, NeverHasChunkLine}
use Rattle.fedi_http.proofs.ChunkLemmas.{line-found, line-front}
use Rattle.fedi_http.proofs.chunks.line_in.Goals as goal

pub returns-in-Ok-Complete : goal.returns-in-Ok-Complete
returns-in-Ok-Complete c =
    let h = rw c.in-Ok-Complete.field-0-is at c.in-Ok-Complete.ensures.complete in
    line-found c.args.bytes.now c.min.result c.in-Ok-Complete.length c.in-Ok-Complete.size h.0 (omega (arith, c.min.ensures)) h.1

pub returns-in-Ok-Partial-2 : goal.returns-in-Ok-Partial-2
returns-in-Ok-Partial-2 c =
    let h = rw c.in-Ok-Partial.field-0-is at c.in-Ok-Partial.ensures.partial in (
      refl,
      inr (omega (arith, c.if-front-lt-LINE_LIMIT.false, length-take c.min.result c.args.bytes.now), line-front c.args.bytes.now c.min.result HasNoChunkLine c.min.ensures h),
    )

pub returns-in-Err : goal.returns-in-Err
returns-in-Err c = (refl, inl (line-front c.args.bytes.now c.min.result NeverHasChunkLine c.min.ensures c.in-Err.ensures.invalid))
