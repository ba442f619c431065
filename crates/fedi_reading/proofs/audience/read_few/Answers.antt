use Rattle.std.proofs.lemmas.Bool.{lt-ltb}
use Rattle.std.proofs.lemmas.Result.{err_from_is_err_and}
use Rattle.serde_json.specs.View.{view}
use Rattle.fedi_reading.proofs.FaultLemmas.{bad_few, crowded_few}
use Rattle.fedi_reading.proofs.audience.read_few.Goals as goal

pub returns-in_err-check_recipients : goal.returns-in_err-check_recipients
returns-in_err-check_recipients c =
    let p = err_from_is_err_and c.from_residual.result c.from_residual.ensures.1 in
    rw (p.1, p.2) (λ h.
    let bad = c.in_err-check_recipients.ensures h in
    rw bad.0 (bad_few c.args.most (view c.args.value.now) bad.1))

pub returns-then-entry_count-most : goal.returns-then-entry_count-most
returns-then-entry_count-most c = λ other.
    crowded_few c.args.most (view c.args.value.now) c.in_ok-check_recipients.ensures
    (lt-ltb c.args.most _ (rw (← c.entry_count.ensures) c.if-entry_count-most.true))
