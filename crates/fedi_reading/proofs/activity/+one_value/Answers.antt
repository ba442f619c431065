use Rattle.std.proofs.Common.{sym, arith}
use Rattle.serde_json.specs.View.{view}
use Rattle.serde_json.proofs.Views.{view-Array}
use Rattle.fedi_reading.proofs.ReadingLemmas.{none_of_many}
use Rattle.fedi_reading.proofs.activity.+one_value.Goals as goal

pub returns-in-Array-2 : goal.returns-in-Array-2
returns-in-Array-2 t c =
    rw (c.in-Array.is, view-Array c.in-Array.values)
    (sym (none_of_many view c.in-Array.values.items (λ one. c.if-len-eq1.false (omega (arith, c.in-Array.values.ok)))))
