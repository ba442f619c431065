use Rattle.std.proofs.Common.{arith}
use Rattle.fedi_demo.proofs.Appended.{one_more_status}
use Rattle.fedi_demo.proofs.printed.put_statuses_from.Goals as goal

pub lines-preserved : goal.lines-preserved
lines-preserved c =
    let before = c.lines.invariant in
    let short = c.lines-test.true in
    record {
      within = omega (arith, short);
      text = rw c.in_ok-put_status.ensures
          (one_more_status c.lines.text.items _ _ c.args.first c.args.count c.lines.done short before.text);
    }
