use Rattle.std.proofs.Common.{arith, map, ◌∙◌, ◌≤◌, ◌++◌, ◌+◌, ap, refl, sym, subst, take, drop, []}
use Rattle.std.proofs.lemmas.Result.{err_from_is_err_and}
use Rattle.csv.specs.Writing.{default_writer, row_text}
use Rattle.fedi_logged.specs.Endings.{Writes, output_by}
use Rattle.fedi_logged.proofs.SessionLemmas.{writes_on, writes_none}
use Rattle.fedi_report.specs.Tables.{rows_text}
use Rattle.fedi_report.proofs.Blocks.{rows_and_block, rows_and_rest}
use Rattle.fedi_report.proofs.Pieces.{stopped_on}
use Rattle.fedi_report.proofs.tables.write_table.Goals as goal

pub returns-in_err-send_piece : goal.returns-in_err-send_piece
returns-in_err-send_piece g c =
    let p = err_from_is_err_and c.from_residual.result c.from_residual.ensures.1 in
    let names = row_text default_writer (map (λ f. f.now) c.args.names.now) in
    let first = output_by g.K.Sink.sent g.K.Sink.write_faults c.args.sink.now in
    let piece = c.in_err-send_piece.ensures names c.names_row.ensures in
    rw (p.1, p.2) (stopped_on _ first first _ [] names _ _ refl (writes_none first) piece)

pub returns-in_err-send_piece-2 : goal.returns-in_err-send_piece-2
returns-in_err-send_piece-2 g c =
    let p = err_from_is_err_and c.from_residual-in_err-send_piece-2.result c.from_residual-in_err-send_piece-2.ensures.1 in
    let names = row_text default_writer (map (λ f. f.now) c.args.names.now) in
    let rows = g.T.Table.rows c.args.table.now in
    let next = c.rest.done + c.min.result in
    let behind : c.rest.done ≤ next = omega (arith) in
    let whole = rows_and_rest names rows next ∙ ap (λ t. t ++ rows_text (drop next rows)) (sym (rows_and_block names rows c.rest.done next behind)) in
    let piece = c.in_err-send_piece-2.ensures _ c.rows_block.ensures in
    rw (p.1, p.2) (stopped_on _ _ _ _ (names ++ rows_text (take c.rest.done rows)) _ _ _ whole c.rest.invariant.written piece)

pub rest-preserved : goal.rest-preserved
rest-preserved g c =
    let names = row_text default_writer (map (λ f. f.now) c.args.names.now) in
    let rows = g.T.Table.rows c.args.table.now in
    let next = c.rest.done + c.min.result in
    let behind : c.rest.done ≤ next = omega (arith) in
    let least = c.min.ensures in
    let piece = c.in_ok-send_piece-2.ensures _ c.rows_block.ensures in
    record {
      within = let test = c.rest-test.true in omega (arith, least, test);
      count = c.rest.invariant.count;
      written = subst (λ t. Writes (output_by g.K.Sink.sent g.K.Sink.write_faults c.args.sink.now) (output_by g.K.Sink.sent g.K.Sink.write_faults c.send_piece-in-rest.new.sink) t) (rows_and_block names rows c.rest.done next behind) (writes_on _ _ _ _ _ c.rest.invariant.written piece);
    }
