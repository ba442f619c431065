use Rattle.std.proofs.Common.{◌<◌, get_or, sym, ◌∙◌}
use Rattle.fedi_routes.proofs.NumberLemmas.{number_begins, number_written, number_unwritten}
use Rattle.fedi_routes.proofs.number.number_of.Goals as goal

pub returns-then-not-begins_above_zero : goal.returns-then-not-begins_above_zero
returns-then-not-begins_above_zero c number small same =
    let begins : 48 < get_or c.as_bytes.result.now 0 0 = rw (c.as_bytes.ensures.value ∙ same) (number_begins number small) in
    cc (c.begins_above_zero.ensures.1 begins)

pub returns-in-Ok : goal.returns-in-Ok
returns-in-Ok c =
    let begins : 48 < get_or c.args.digits.now 0 0 = rw (sym c.as_bytes.ensures.value) (c.begins_above_zero.ensures.0 c.if-not-begins_above_zero.false) in
    number_written c.args.digits.now c.in-Ok.number begins c.in-Ok.ensures.value.0

pub returns-in-Err : goal.returns-in-Err
returns-in-Err c number small same =
    number_unwritten c.args.digits.now c.in-Err.field-0 number c.in-Err.ensures.value.0 small same
