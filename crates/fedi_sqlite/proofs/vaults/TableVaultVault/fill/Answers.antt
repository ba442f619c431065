use Rattle.std.proofs.Common.{◌≡◌, ◌≢◌, ℕ, [], true, false, Some, Err, IfSome, IsErrOf, refl, sym, ap, subst, ◌∙◌}
use Rattle.std.specs.Prelude.{⊤}
use Rattle.fedi_outside.specs.declared.vaults.FillFault.TheVariants.{Exists}
use Rattle.fedi_sqlite.specs.Vaults.{IsAtHome, counted_unfilled, is_out, kept_in, vault_shown}
use Rattle.fedi_sqlite.proofs.FillingSteps.{counted_unfilled_same, filled_home, never_exists, never_none, unfilled_home}
use Rattle.fedi_sqlite.proofs.vaults.TableVaultVault.fill.Goals as goal

pub unreachable-requires : goal.unreachable-requires
unreachable-requires g c =
    let out : true ≡ false = ap is_out (sym c.in_default.is ∙ c.take.ensures.value) ∙ ap (λ v. (vault_shown g.S.Store v).out) c.self.view_is ∙ c.requires.home in
    absurd cc

pub unreachable-unreachable : goal.unreachable-unreachable
unreachable-unreachable g c = absurd c.unreachable.result

pub invariant_of-self : goal.invariant_of-self
invariant_of-self g c =
    let at = sym c.take.ensures.value ∙ c.in-Some.is in
    let home = subst (λ o. IsAtHome g.S.Store o c.self.inside.reports) at c.self.invariant in
    (filled_home g.S.Store c.in-Some.conn c.fill_table.new.conn c.self.inside.reports (g.P.Keeper.shown c.args.from.now).records _ home c.in-Ok.ensures.filled).0

pub invariant_of-self-in-Err : goal.invariant_of-self-in-Err
invariant_of-self-in-Err g c =
    let at = sym c.take.ensures.value ∙ c.in-Some.is in
    let home = subst (λ o. IsAtHome g.S.Store o c.self.inside.reports) at c.self.invariant in
    (unfilled_home g.S.Store c.in-Some.conn c.fill_table.new.conn c.self.inside.reports (g.P.Keeper.shown c.args.from.now).records c.in-Err.fault home c.in-Err.ensures.filled).0

pub returns-in-Ok-clause-filled : goal.returns-in-Ok-clause-filled
returns-in-Ok-clause-filled g c =
    let at = sym c.take.ensures.value ∙ c.in-Some.is in
    let home = subst (λ o. IsAtHome g.S.Store o c.self.inside.reports) at c.self.invariant in
    let kept = ap (kept_in g.S.Store c.self.inside.reports) (sym at) ∙ ap (λ v. kept_in g.S.Store v.reports v.conn) c.self.view_is in
    let it = filled_home g.S.Store c.in-Some.conn c.fill_table.new.conn c.self.inside.reports (g.P.Keeper.shown c.args.from.now).records _ home c.in-Ok.ensures.filled in
    record {
      all = it.1;
      unchanged = tt;
      exists = never_exists _ _;
      none = subst (λ k. IfSome k (λ records. records ≡ [])) kept it.2;
      home = refl;
      cause = ap (λ v. (vault_shown g.S.Store v).faults) c.self.view_is;
    }

pub returns-in-Err-clause-filled : goal.returns-in-Err-clause-filled
returns-in-Err-clause-filled g c =
    let at = sym c.take.ensures.value ∙ c.in-Some.is in
    let home = subst (λ o. IsAtHome g.S.Store o c.self.inside.reports) at c.self.invariant in
    let kept = ap (kept_in g.S.Store c.self.inside.reports) (sym at) ∙ ap (λ v. kept_in g.S.Store v.reports v.conn) c.self.view_is in
    let it = unfilled_home g.S.Store c.in-Some.conn c.fill_table.new.conn c.self.inside.reports (g.P.Keeper.shown c.args.from.now).records c.in-Err.fault home c.in-Err.ensures.filled in
    record {
      all = tt;
      unchanged = subst (λ k. IfSome (kept_in g.S.Store c.self.inside.reports (Some c.fill_table.new.conn)) (λ now. k ≡ Some now)) kept it.1;
      exists = subst (λ k. IfSome k (λ records. IsErrOf {T = ⊤} (Err c.in-Err.fault) Exists → records ≢ [])) kept it.2;
      none = never_none ⊤ _ c.in-Err.fault;
      home = refl;
      cause = c.counted_unfilled-self-inside.ensures ∙ ap (λ v. counted_unfilled c.in-Err.fault (vault_shown g.S.Store v).faults) c.self.view_is ∙ counted_unfilled_same ℕ c.in-Err.fault _;
    }

pub returns-in-Ok-clause-reports : goal.returns-in-Ok-clause-reports
returns-in-Ok-clause-reports g c = ap (λ v. v.reports) c.self.view_is

pub returns-in-Err-clause-reports : goal.returns-in-Err-clause-reports
returns-in-Err-clause-reports g c = ap (λ v. v.reports) c.self.view_is
