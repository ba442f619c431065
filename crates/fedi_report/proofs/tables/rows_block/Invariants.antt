use Rattle.std.proofs.Common.{◌≡◌, ◌≤◌, ◌-◌}
use Rattle.fedi_report.specs.Tables.{IsBetweenRows, rows_from, rows_text, written}
use Rattle.fedi_report.proofs.tables.rows_block.Given as goal

abbrev pub invariant-rows : goal.invariant-rows
invariant-rows g l = record {
  behind : l.from ≤ l.next;
  within : l.next ≤ l.to;
  between : IsBetweenRows l.text;
  text : written l.text ≡ rows_text (rows_from (g.T.Table.rows l.table) l.from (l.next - l.from));
}

abbrev pub decreases-rows : goal.decreases-rows
decreases-rows g l = l.to - l.next
