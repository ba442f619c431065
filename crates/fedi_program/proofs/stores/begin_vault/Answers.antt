use Rattle.std.proofs.Common.{inl, inr}
use Rattle.fedi_program.proofs.WorkLemmas.{making_ends_in, no_host_in}
use Rattle.fedi_program.proofs.stores.begin_vault.Goals as goal

pub returns-in-Err-clause-made : goal.returns-in-Err-clause-made
returns-in-Err-clause-made g c = no_host_in g.V.K.Keeper _ _ _ _ _ _ c.in-Err.ensures.refused

pub returns-in-Ok-make_vault-clause-made : goal.returns-in-Ok-make_vault-clause-made
returns-in-Ok-make_vault-clause-made g c =
    let b = c.in-Ok.ensures.begun in
    let printed = rw (c.deref.ensures.value, b.line_is, c.in-Ok.ensures.same) at c.print.ensures in
    making_ends_in g.V.K.Keeper _ _ _ _ _ c.args.host.now c.in-Ok.first.host c.in-Ok.first.moment _ b.same b.valid b.moment_is
    (inl (c.in-Ok-make_vault.ensures.made, printed))

pub returns-clause-made : goal.returns-clause-made
returns-clause-made g c =
    let b = c.in-Ok.ensures.begun in
    let reported = rw c.in-Ok.ensures.same at c.report_making.ensures in
    making_ends_in g.V.K.Keeper _ _ _ _ _ c.args.host.now c.in-Ok.first.host c.in-Ok.first.moment _ b.same b.valid b.moment_is
    (inr (c.in-Err-make_vault.fault, c.in-Err-make_vault.ensures.refused, reported))
