use Rattle.std.proofs.Common.{◌≡◌, ℕ, true, false, Err, refl, sym, ap, subst, ◌∙◌}
use Rattle.fedi_sqlite.specs.Vaults.{IsAtHome, counted_fault, is_out, kept_in, vault_shown}
use Rattle.fedi_sqlite.proofs.TableSteps.{counted_same, open_err, resumed, resumed_home}
use Rattle.fedi_sqlite.proofs.vaults.TableVaultVault.open.Goals as goal

pub unreachable-requires : goal.unreachable-requires
unreachable-requires g c =
    let out : true ≡ false = ap is_out (sym c.in_default.is ∙ c.take.ensures.value) ∙ ap (λ v. (vault_shown g.S.Store v).out) c.self.view_is ∙ c.requires.home in
    absurd cc

pub unreachable-unreachable : goal.unreachable-unreachable
unreachable-unreachable g c = absurd c.unreachable.result

pub invariant_of-self : goal.invariant_of-self
invariant_of-self g c = subst (λ o. IsAtHome g.S.Store o c.self.inside.reports) (sym c.take.ensures.after) tt

pub invariant_of-result : goal.invariant_of-result
invariant_of-result g c =
    let at = sym c.take.ensures.value ∙ c.in-Some.is in
    let home = subst (λ o. IsAtHome g.S.Store o c.self.inside.reports) at c.self.invariant in
    (resumed g.S.Store c.in-Some.conn c.resume.new.conn c.self.inside.reports c.self.inside.faults home c.in-Ok.held c.in-Ok.ensures.bound c.in-Ok.ensures.resumed).0

pub invariant_of-self-in-Err : goal.invariant_of-self-in-Err
invariant_of-self-in-Err g c =
    let at = sym c.take.ensures.value ∙ c.in-Some.is in
    let home = subst (λ o. IsAtHome g.S.Store o c.self.inside.reports) at c.self.invariant in
    (resumed_home g.S.Store c.in-Some.conn c.resume.new.conn c.self.inside.reports c.self.inside.faults home (Err c.in-Err.fault) c.in-Err.ensures.resumed).0

pub returns-in-Ok-clause-opened : goal.returns-in-Ok-clause-opened
returns-in-Ok-clause-opened g c =
    let at = sym c.take.ensures.value ∙ c.in-Some.is in
    let home = subst (λ o. IsAtHome g.S.Store o c.self.inside.reports) at c.self.invariant in
    let kept = ap (kept_in g.S.Store c.self.inside.reports) (sym at) ∙ ap (λ v. kept_in g.S.Store v.reports v.conn) c.self.view_is in
    let it = resumed g.S.Store c.in-Some.conn c.resume.new.conn c.self.inside.reports c.self.inside.faults home c.in-Ok.held c.in-Ok.ensures.bound c.in-Ok.ensures.resumed in
    record { records = it.1 ∙ kept; settled = refl; faults = refl }

pub returns-in-Ok-clause-refused : goal.returns-in-Ok-clause-refused
returns-in-Ok-clause-refused g c = record { gap = λ place no. absurd cc; no_exists = λ no. absurd cc }

pub returns-in-Ok-clause-after : goal.returns-in-Ok-clause-after
returns-in-Ok-clause-after g c = record { handed = ap is_out c.take.ensures.after; refused = tt; cause = ap (λ v. (vault_shown g.S.Store v).faults) c.self.view_is }

pub returns-in-Err-clause-refused : goal.returns-in-Err-clause-refused
returns-in-Err-clause-refused g c =
    let at = sym c.take.ensures.value ∙ c.in-Some.is in
    let home = subst (λ o. IsAtHome g.S.Store o c.self.inside.reports) at c.self.invariant in
    let kept = ap (kept_in g.S.Store c.self.inside.reports) (sym at) ∙ ap (λ v. kept_in g.S.Store v.reports v.conn) c.self.view_is in
    record {
      gap = λ place is. sym kept ∙ open_err g.S.Store c.self.inside.reports c.in-Some.conn home c.in-Err.fault (λ steady records keeps p e. (c.in-Err.ensures.resumed steady).whole records keeps p (ap Err e)) place cc;
      no_exists = λ is. c.in-Err.ensures.free cc;
    }

pub returns-in-Err-clause-after : goal.returns-in-Err-clause-after
returns-in-Err-clause-after g c =
    let at = sym c.take.ensures.value ∙ c.in-Some.is in
    let home = subst (λ o. IsAtHome g.S.Store o c.self.inside.reports) at c.self.invariant in
    let kept = ap (kept_in g.S.Store c.self.inside.reports) (sym at) ∙ ap (λ v. kept_in g.S.Store v.reports v.conn) c.self.view_is in
    record {
      handed = tt;
      refused = (refl, (resumed_home g.S.Store c.in-Some.conn c.resume.new.conn c.self.inside.reports c.self.inside.faults home (Err c.in-Err.fault) c.in-Err.ensures.resumed).1 ∙ kept);
      cause = c.counted-self-inside.ensures ∙ ap (λ v. counted_fault c.in-Err.fault (vault_shown g.S.Store v).faults) c.self.view_is ∙ counted_same ℕ c.in-Err.fault _;
    }
