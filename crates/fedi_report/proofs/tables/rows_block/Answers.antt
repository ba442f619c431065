use Rattle.std.proofs.Common.{arith}
use Rattle.fedi_report.proofs.Blocks.{next_row_at}
use Rattle.fedi_report.proofs.tables.rows_block.Goals as goal

pub rows-preserved : goal.rows-preserved
rows-preserved g c =
    let before = c.rows.invariant in
    let rows = g.T.Table.rows c.args.table.now in
    record {
      behind = omega (arith, before.behind);
      within = omega (arith, c.rows-test.true);
      between = c.in_ok-write_row.ensures.between;
      text = next_row_at rows c.args.from c.rows.next _ _ before.behind before.text c.in_ok-write_row.ensures.row;
    }
