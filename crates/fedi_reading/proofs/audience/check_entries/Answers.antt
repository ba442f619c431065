use Rattle.std.proofs.lemmas.Result.{err_from_is_err_and}
use Rattle.serde_json.specs.View.{view}
use Rattle.fedi_reading.proofs.ReadingLemmas.{finds_bad, stays_good, map_take_more}
use Rattle.fedi_reading.proofs.audience.check_entries.Goals as goal

pub returns-in_err-read_entry : goal.returns-in_err-read_entry
returns-in_err-read_entry c =
    let p = err_from_is_err_and c.from_residual.result c.from_residual.ensures.1 in
    rw (p.1, p.2) (λ h. finds_bad view c.args.entries.now c.loop-entry.entry-index c.entry-item.result c.in_err-read_entry.field-0.0 c.loop-entry-test.true (rw (← c.entry-item.is) (c.in_err-read_entry.ensures h)))

pub loop-entry-preserved : goal.loop-entry-preserved
loop-entry-preserved c =
    rw (map_take_more view c.args.entries.now c.loop-entry.entry-index c.entry-item.result c.loop-entry-test.true, ← c.entry-item.is)
    (stays_good _ _ c.in_ok-read_entry.field-0 c.loop-entry.invariant c.in_ok-read_entry.ensures)
