use Rattle.std.specs.Prelude.{⊤}
use Rattle.std.proofs.Common.{refl}
use Rattle.fedi_program.proofs.ReportLemmas.{all_printed, broken_off, not_selected, short_of}
use Rattle.fedi_program.proofs.reporting.print_selected.Goals as goal

pub returns-in-Ok : goal.returns-in-Ok
returns-in-Ok g c t same =
    let e = c.in-Ok.ensures in
    all_printed {T = ⊤} c.args.actor.now c.args.kind.now t c.args.rows.now same _ _ _ _ _ (e.export t same) e.laid e.faults e.writes

pub returns-in-Err-StoreFault : goal.returns-in-Err-StoreFault
returns-in-Err-StoreFault g c t same =
    let e = c.in-Err-StoreFault.ensures in
    let is = c.in-Err-StoreFault.field-0-is in
    not_selected {T = ⊤} c.args.actor.now c.args.kind.now t c.args.rows.now same _ _ _ _ _ _ is e.laid e.faults (rw (e.silent (rw is refl)) at c.report.ensures)

pub returns-in-Err-WriteFault : goal.returns-in-Err-WriteFault
returns-in-Err-WriteFault g c t same =
    let e = c.in-Err-WriteFault.ensures in
    broken_off {T = ⊤} c.args.actor.now c.args.kind.now t c.args.rows.now same _ _ _ _ _ c.in-Err-WriteFault.field-0-is (e.export t same) e.laid e.faults e.writes

pub returns-in-Err-Memory : goal.returns-in-Err-Memory
returns-in-Err-Memory g c t same =
    let e = c.in-Err-Memory.ensures in
    short_of {T = ⊤} c.args.actor.now c.args.kind.now t c.args.rows.now same _ _ _ _ _ c.in-Err-Memory.field-0-is (e.export t same) e.laid e.faults e.writes
