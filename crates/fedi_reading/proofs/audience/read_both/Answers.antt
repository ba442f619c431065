use Rattle.std.proofs.Common.{◌≡◌, true, refl}
use Rattle.std.proofs.Math.Bool.{or-true}
use Rattle.std.proofs.lemmas.Bool.{lt-ltb}
use Rattle.std.proofs.lemmas.Result.{err_from_is_err_and}
use Rattle.serde_json.specs.View.{view}
use Rattle.fedi_reading.specs.Reading.{is_crowded}
use Rattle.fedi_reading.proofs.FaultLemmas.{bad_both, crowded_both}
use Rattle.fedi_reading.proofs.audience.read_both.Goals as goal
use Rattle.fedi_reading.proofs.audience.read_both.Goals.{then-entry_count-most-via-then-entry_count-most, then-entry_count-most-via-else-entry_count-most+then-entry_count-most-2}

pub returns-in_err-check_recipients : goal.returns-in_err-check_recipients
returns-in_err-check_recipients c =
    let p = err_from_is_err_and c.from_residual.result c.from_residual.ensures.1 in
    rw (p.1, p.2) (λ h.
    let bad = c.in_err-check_recipients.ensures h in
    rw bad.0 (bad_both c.args.most (view c.args.value.now) (view c.args.object.now) (rw bad.1 refl)))

pub returns-in_err-check_recipients-2 : goal.returns-in_err-check_recipients-2
returns-in_err-check_recipients-2 c =
    let p = err_from_is_err_and c.from_residual-in_err-check_recipients-2.result c.from_residual-in_err-check_recipients-2.ensures.1 in
    rw (p.1, p.2) (λ h.
    let bad = c.in_err-check_recipients-2.ensures h in
    rw bad.0 (bad_both c.args.most (view c.args.value.now) (view c.args.object.now) (rw (c.in_ok-check_recipients.ensures, bad.1) refl)))

pub returns-then-entry_count-most : goal.returns-then-entry_count-most
returns-then-entry_count-most c = λ other.
    crowded_both c.args.most (view c.args.value.now) (view c.args.object.now) c.in_ok-check_recipients.ensures c.in_ok-check_recipients-2.ensures
    (elim c.then-entry_count-most.branch [
      | then-entry_count-most-via-then-entry_count-most w ↦
          let crowd : is_crowded c.args.most (view c.args.value.now) ≡ true = lt-ltb c.args.most _ (rw (← c.entry_count.ensures) w.if-entry_count-most.true) in
          rw crowd refl
      | then-entry_count-most-via-else-entry_count-most+then-entry_count-most-2 w ↦
          let crowd : is_crowded c.args.most (view c.args.object.now) ≡ true = lt-ltb c.args.most _ (rw (← w.entry_count-else-entry_count-most.ensures) w.if-entry_count-most-2.true) in
          rw crowd (or-true (is_crowded c.args.most (view c.args.value.now)))
    ])
