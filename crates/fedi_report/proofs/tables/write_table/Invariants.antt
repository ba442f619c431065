use Rattle.std.proofs.Common.{◌≡◌, ◌≤◌, ◌-◌, ◌∷◌, length, map, take}
use Rattle.fedi_logged.specs.Endings.{Writes, output_by}
use Rattle.fedi_report.specs.Tables.{rows_text}
use Rattle.fedi_report.proofs.tables.write_table.Given as goal

abbrev pub invariant-rest : goal.invariant-rest
invariant-rest g l = record {
  within : l.done ≤ l.count;
  count : l.count ≡ length (g.T.Table.rows l.table);
  written : Writes (output_by g.K.Sink.sent g.K.Sink.write_faults l.fn.sink) (output_by g.K.Sink.sent g.K.Sink.write_faults l.sink)
      (rows_text (map (λ f. f.now) l.names ∷ take l.done (g.T.Table.rows l.table)));
}

abbrev pub decreases-rest : goal.decreases-rest
decreases-rest g l = l.count - l.done
