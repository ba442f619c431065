use Rattle.std.proofs.Common.{arith}
use Rattle.fedi_text.proofs.DecimalLemmas.{next_digit}
use Rattle.fedi_text.proofs.decimal.number_of.Goals as goal

pub overflow_sub-digit : goal.overflow_sub-digit
overflow_sub-digit c = let next = next_digit c.args.digits.now c.loop-digit.digit-index c.requires (omega arith) in omega arith

pub overflow_mul-number : goal.overflow_mul-number
overflow_mul-number c = let next = next_digit c.args.digits.now c.loop-digit.digit-index c.requires (omega arith) in omega arith

pub overflow_add-number : goal.overflow_add-number
overflow_add-number c = let next = next_digit c.args.digits.now c.loop-digit.digit-index c.requires (omega arith) in omega arith

pub loop-digit-preserved : goal.loop-digit-preserved
loop-digit-preserved c = let next = next_digit c.args.digits.now c.loop-digit.digit-index c.requires (omega arith) in omega arith
