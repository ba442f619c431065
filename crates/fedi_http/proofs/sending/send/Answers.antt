use Rattle.std.proofs.Common.{◌∙◌, arith, length-drop}
use Rattle.std.proofs.lemmas.List.{take_rest}
use Rattle.fedi_http.proofs.SendLemmas.{Appends-next}
use Rattle.fedi_http.proofs.sending.send.Goals as goal

-- the bytes of this write follow those of the previous writes
pub writes-preserved : goal.writes-preserved
writes-preserved g c =
    let told = c.in_ok-done.ensures in
    record {
      within = omega (arith, rw (take_rest c.args.bytes.now c.writes.done, length-drop c.writes.done c.args.bytes.now) at told.bound);
      sent = Appends-next _ _ _ _ _ _ c.writes.invariant.sent (rw (take_rest c.args.bytes.now c.writes.done) at told.bytes);
      told = told.told ∙ c.writes.invariant.told;
      beside = told.beside ∙ c.writes.invariant.beside;
      calm = told.cause.calm ∙ c.writes.invariant.calm;
    }
