use Rattle.std.proofs.Common.{refl}
use Rattle.fedi_entry.specs.Codes.{code_of, fields_code}
use Rattle.fedi_entry.proofs.laws.codes_begin_with_the_kind.Goals as goal

pub returns : goal.returns
unfolding code_of
returns c = λ entry. (fields_code entry, refl)
