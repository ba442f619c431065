use Rattle.std.proofs.Common.{◌≡◌, ℕ, true, false, Err, refl, sym, ap, subst, ◌∙◌}
use Rattle.fedi_outside.specs.Vaults.{none_of}
use Rattle.fedi_sqlite.specs.Vaults.{IsAtHome, counted_fault, is_out, kept_in, vault_shown}
use Rattle.fedi_sqlite.proofs.TableSteps.{begun, counted_same, held_is, make_err, make_ok, none_kept, still_home}
use Rattle.fedi_sqlite.proofs.vaults.TableVaultVault.make.Goals as goal

pub unreachable-requires : goal.unreachable-requires
unreachable-requires g c =
    let out : true ≡ false = ap is_out (sym c.in_default.is ∙ c.take.ensures.value) ∙ ap (λ v. (vault_shown g.S.Store v).out) c.self.view_is ∙ c.requires.home in
    absurd cc

pub unreachable-unreachable : goal.unreachable-unreachable
unreachable-unreachable g c = absurd c.unreachable.result

pub invariant_of-self : goal.invariant_of-self
invariant_of-self g c = subst (λ o. IsAtHome g.S.Store o c.self.inside.reports) (sym c.take.ensures.after) tt

pub invariant_of-result : goal.invariant_of-result
invariant_of-result g c =
    let at = sym c.take.ensures.value ∙ c.in-Some.is in
    let home = subst (λ o. IsAtHome g.S.Store o c.self.inside.reports) at c.self.invariant in
    (begun g.S.Store c.in-Some.conn c.begin.new.conn c.self.inside.reports c.self.inside.faults home c.in-Ok.field-0 c.in-Ok.ensures.begun).0

pub invariant_of-self-in-Err : goal.invariant_of-self-in-Err
invariant_of-self-in-Err g c =
    let at = sym c.take.ensures.value ∙ c.in-Some.is in
    let home = subst (λ o. IsAtHome g.S.Store o c.self.inside.reports) at c.self.invariant in
    (still_home g.S.Store c.in-Some.conn c.begin.new.conn c.self.inside.reports c.self.inside.faults home (Err c.in-Err.fault) c.in-Err.ensures.begun).0

pub returns-in-Ok-clause-made : goal.returns-in-Ok-clause-made
returns-in-Ok-clause-made g c =
    let at = sym c.take.ensures.value ∙ c.in-Some.is in
    let home = subst (λ o. IsAtHome g.S.Store o c.self.inside.reports) at c.self.invariant in
    let kept = ap (kept_in g.S.Store c.self.inside.reports) (sym at) ∙ ap (λ v. kept_in g.S.Store v.reports v.conn) c.self.view_is in
    let it = begun g.S.Store c.in-Some.conn c.begin.new.conn c.self.inside.reports c.self.inside.faults home c.in-Ok.field-0 c.in-Ok.ensures.begun in
    let none = none_kept g.S.Store c.self.inside.reports c.in-Some.conn home (λ steady records keeps. (c.in-Ok.ensures.begun steady).none records keeps) in
    record { records = it.1 ∙ none ∙ ap none_of kept; settled = refl; faults = refl }

pub returns-in-Ok-clause-none : goal.returns-in-Ok-clause-none
returns-in-Ok-clause-none g c =
    let at = sym c.take.ensures.value ∙ c.in-Some.is in
    let home = subst (λ o. IsAtHome g.S.Store o c.self.inside.reports) at c.self.invariant in
    let it = begun g.S.Store c.in-Some.conn c.begin.new.conn c.self.inside.reports c.self.inside.faults home c.in-Ok.field-0 c.in-Ok.ensures.begun in
    sym (held_is g.S.Store c.begin.new.conn 0 c.self.inside.reports it.0)

pub returns-in-Ok-clause-refused : goal.returns-in-Ok-clause-refused
returns-in-Ok-clause-refused g c =
    let at = sym c.take.ensures.value ∙ c.in-Some.is in
    let home = subst (λ o. IsAtHome g.S.Store o c.self.inside.reports) at c.self.invariant in
    let kept = ap (kept_in g.S.Store c.self.inside.reports) (sym at) ∙ ap (λ v. kept_in g.S.Store v.reports v.conn) c.self.view_is in
    rw (sym kept) (make_ok g.S.Store c.self.inside.reports c.in-Some.conn home (λ steady records keeps. (c.in-Ok.ensures.begun steady).none records keeps) _)

pub returns-in-Ok-clause-after : goal.returns-in-Ok-clause-after
returns-in-Ok-clause-after g c = record { handed = ap is_out c.take.ensures.after; refused = tt; cause = ap (λ v. (vault_shown g.S.Store v).faults) c.self.view_is }

pub returns-in-Err-clause-refused : goal.returns-in-Err-clause-refused
returns-in-Err-clause-refused g c =
    let at = sym c.take.ensures.value ∙ c.in-Some.is in
    let home = subst (λ o. IsAtHome g.S.Store o c.self.inside.reports) at c.self.invariant in
    let kept = ap (kept_in g.S.Store c.self.inside.reports) (sym at) ∙ ap (λ v. kept_in g.S.Store v.reports v.conn) c.self.view_is in
    rw (sym kept) (make_err g.S.Store c.self.inside.reports c.in-Some.conn home c.in-Err.fault (λ steady records keeps is. (c.in-Err.ensures.begun steady).some records keeps (ap Err is)) (λ place is. c.in-Err.ensures.whole place (ap Err is)))

pub returns-in-Err-clause-after : goal.returns-in-Err-clause-after
returns-in-Err-clause-after g c =
    let at = sym c.take.ensures.value ∙ c.in-Some.is in
    let home = subst (λ o. IsAtHome g.S.Store o c.self.inside.reports) at c.self.invariant in
    let kept = ap (kept_in g.S.Store c.self.inside.reports) (sym at) ∙ ap (λ v. kept_in g.S.Store v.reports v.conn) c.self.view_is in
    record {
      handed = tt;
      refused = (refl, (still_home g.S.Store c.in-Some.conn c.begin.new.conn c.self.inside.reports c.self.inside.faults home (Err c.in-Err.fault) c.in-Err.ensures.begun).1 ∙ kept);
      cause = c.counted-self-inside.ensures ∙ ap (λ v. counted_fault c.in-Err.fault (vault_shown g.S.Store v).faults) c.self.view_is ∙ counted_same ℕ c.in-Err.fault _;
    }
