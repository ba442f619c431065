use Rattle.std.specs.Prelude.{⊤}
use Rattle.std.proofs.Common.{◌∙◌, sym, ap}
use Rattle.fedi_logged.specs.Endings.{output_by}
use Rattle.fedi_report.proofs.Selecting.{export_written, if_some, laid_on, laid_still, none_counted, not_write, nothing_sent, picked_written, store_counted, written_counted}
use Rattle.fedi_report.specs.Selections.{fault_of, picked_text, selection_text}
use Rattle.fedi_report.proofs.selections.csv_selected.Goals as goal

pub returns-in-Ok-clause-text : goal.returns-in-Ok-clause-text
returns-in-Ok-clause-text g c =
    picked_written _ c.args.actor.now c.args.kind.now c.args.rows.now c.in-Ok.found.items _ _ _ c.write_rows.result c.deref.ensures.value c.in-Ok.ensures.found c.write_rows.ensures.text

pub returns-in-Ok-clause-export : goal.returns-in-Ok-clause-export
returns-in-Ok-clause-export g c t is =
    export_written _ c.args.actor.now c.args.kind.now c.args.rows.now t _ _ c.write_rows.result is
    (picked_written _ c.args.actor.now c.args.kind.now c.args.rows.now c.in-Ok.found.items _ _ _ c.write_rows.result c.deref.ensures.value c.in-Ok.ensures.found c.write_rows.ensures.text)

pub returns-in-Ok-clause-laid : goal.returns-in-Ok-clause-laid
returns-in-Ok-clause-laid g c = laid_on c.args.rows.now _ _ c.in-Ok.found c.write_rows.result c.in-Ok.ensures.laid

pub returns-in-Ok-clause-faults : goal.returns-in-Ok-clause-faults
returns-in-Ok-clause-faults g c = c.in-Ok.ensures.faults ∙ written_counted c.write_rows.result _ c.write_rows.ensures.free

pub returns-in-Err-clause-text : goal.returns-in-Err-clause-text
returns-in-Err-clause-text g c =
    if_some _
    (nothing_sent ⊤ (output_by g.K.Sink.sent g.K.Sink.write_faults c.args.sink.now) (picked_text c.args.actor.now c.args.kind.now c.args.rows.now) c.fault_of.result (λ is. not_write c.in-Err.fault (sym c.fault_of.ensures ∙ is)))

pub returns-in-Err-clause-export : goal.returns-in-Err-clause-export
returns-in-Err-clause-export g c t is =
    if_some _
    (nothing_sent ⊤ (output_by g.K.Sink.sent g.K.Sink.write_faults c.args.sink.now) (selection_text c.args.actor.now c.args.kind.now t) c.fault_of.result (λ is. not_write c.in-Err.fault (sym c.fault_of.ensures ∙ is)))

pub returns-in-Err-clause-laid : goal.returns-in-Err-clause-laid
returns-in-Err-clause-laid g c = laid_still _ _ c.args.rows.now _ _ c.in-Err.fault c.fault_of.result c.in-Err.ensures.laid

pub returns-in-Err-clause-faults : goal.returns-in-Err-clause-faults
returns-in-Err-clause-faults g c = rw c.fault_of.ensures (c.in-Err.ensures.faults ∙ store_counted ⊤ ⊤ c.in-Err.fault _)

pub returns-in-Err-clause-writes : goal.returns-in-Err-clause-writes
returns-in-Err-clause-writes g c = rw c.fault_of.ensures (none_counted ⊤ c.in-Err.fault (g.K.Sink.write_faults c.args.sink.now))
