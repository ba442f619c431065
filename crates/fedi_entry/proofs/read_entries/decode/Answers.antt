use Rattle.std.proofs.Common.{◌∙◌, ap, arith, sym}
use Rattle.fedi_entry.specs.Reading.{last_at}
use Rattle.fedi_entry.proofs.ReadEntries.{last_is, last_takes, not_read, same_entry}
use Rattle.fedi_entry.proofs.read_entries.decode.Goals as goal

pub returns-in-Ok-clause-code : goal.returns-in-Ok-clause-code
returns-in-Ok-clause-code c =
    (last_takes c.args.bytes.now c.in-Ok.entry (record { each = λ i. omega (arith, c.type_inv.bytes i) }) (rw (sym c.new.ensures) c.in-Ok.ensures)).0

pub returns-in-Ok-clause-formed : goal.returns-in-Ok-clause-formed
returns-in-Ok-clause-formed c =
    (last_takes c.args.bytes.now c.in-Ok.entry (record { each = λ i. omega (arith, c.type_inv.bytes i) }) (rw (sym c.new.ensures) c.in-Ok.ensures)).1

pub returns-in-Ok-clause-only : goal.returns-in-Ok-clause-only
returns-in-Ok-clause-only c = λ other formed is.
    same_entry (last_at c.args.bytes.now) other c.in-Ok.entry (last_is other c.args.bytes.now formed is) (rw (sym c.new.ensures) c.in-Ok.ensures)

pub returns-in-Err-BadField-clause-none : goal.returns-in-Err-BadField-clause-none
returns-in-Err-BadField-clause-none c = λ bad entry formed is.
    not_read (last_at c.new.result) entry c.in-Err-BadField.field-0 c.in-Err-BadField.left c.in-Err-BadField.field-0-is c.in-Err-BadField.ensures
    (ap last_at c.new.ensures ∙ last_is entry c.args.bytes.now formed is)
