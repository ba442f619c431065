use Rattle.std.proofs.Common.{arith}
use Rattle.fedi_http.proofs.HeadLemmas.{no_lf, no_lf_at_all, slice-length}
use Rattle.fedi_http.proofs.heads.next_line_feed.Goals as goal

pub returns-in-Some : goal.returns-in-Some
returns-in-Some c =
    let long = slice-length c.args.bytes.now c.args.from c.args.upto c.requires.inside in
    let first = c.in-Some.ensures.0 in (
      omega arith,
      omega (arith, first.high, long),
      no_lf c.args.bytes.now c.args.from c.args.upto c.in-Some.more c.requires.ordered c.requires.inside (omega (arith, first.high, long)) first.before,
    )

pub returns-in-None : goal.returns-in-None
returns-in-None c =
    let long = slice-length c.args.bytes.now c.args.from c.args.upto c.requires.inside in
    no_lf_at_all c.args.bytes.now c.args.from c.args.upto c.requires.ordered c.requires.inside (rw long at c.in-None.ensures)
