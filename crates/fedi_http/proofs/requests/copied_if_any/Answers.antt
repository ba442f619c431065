use Rattle.std.proofs.Common.{Some, ap, sym, ◌∙◌}
use Rattle.std.specs.Prelude.{option_copied}
use Rattle.std.proofs.lemmas.Result.{err_from_is_err_and}
use Rattle.fedi_http.proofs.requests.copied_if_any.Goals as goal

pub returns-in_err-copied-in-Some-clause-ok : goal.returns-in_err-copied-in-Some-clause-ok
returns-in_err-copied-in-Some-clause-ok c =
    let p = err_from_is_err_and c.from_residual.result c.from_residual.ensures.1 in rw p.1 tt

pub returns-in_err-copied-in-Some-clause-err : goal.returns-in_err-copied-in-Some-clause-err
returns-in_err-copied-in-Some-clause-err c =
    let p = err_from_is_err_and c.from_residual.result c.from_residual.ensures.1 in rw (p.1, p.2) c.in_err-copied-in-Some.ensures.err

pub returns-in_ok-copied-in-Some-clause-ok : goal.returns-in_ok-copied-in-Some-clause-ok
returns-in_ok-copied-in-Some-clause-ok c = ap Some c.in_ok-copied-in-Some.ensures.ok ∙ sym (ap option_copied c.in-Some.is)

pub returns-in-None-clause-ok : goal.returns-in-None-clause-ok
returns-in-None-clause-ok c = sym (ap option_copied c.in-None.is)
