use Rattle.std.proofs.Common.{inl, inr}
use Rattle.fedi_program.proofs.StoreLemmas.{making_ends, no_host_made}
use Rattle.fedi_program.proofs.stores.begin_store.Goals as goal

pub returns-in-Err-clause-made : goal.returns-in-Err-clause-made
returns-in-Err-clause-made g c = no_host_made g.D.Disk _ _ _ _ _ _ c.in-Err.ensures.refused

pub returns-in-Ok-default-clause-made : goal.returns-in-Ok-default-clause-made
returns-in-Ok-default-clause-made g c =
    let b = c.in-Ok.ensures.begun in
    let printed = rw (c.deref.ensures.value, b.line_is, c.in-Ok.ensures.same) at c.print.ensures in
    making_ends g.D.Disk _ _ _ _ _ c.args.host.now c.in-Ok.first.host c.in-Ok.first.moment _ b.same b.valid b.moment_is c.make_store.ensures.time
    (inl (rw c.in-Ok-default.is-0 at c.make_store.ensures.made, printed))

pub returns-clause-made : goal.returns-clause-made
returns-clause-made g c =
    let b = c.in-Ok.ensures.begun in
    let reported = rw c.in-Ok.ensures.same at c.report_making.ensures in
    making_ends g.D.Disk _ _ _ _ _ c.args.host.now c.in-Ok.first.host c.in-Ok.first.moment _ b.same b.valid b.moment_is c.make_store.ensures.time
    (inr (c.in-Err-default.fault, rw c.in-Err-default.is-0 at c.make_store.ensures.refused, reported))
