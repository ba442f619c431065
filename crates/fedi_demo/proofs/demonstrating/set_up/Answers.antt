use Rattle.std.proofs.Common.{[], ◌∷◌, ap, subst, ◌∙◌}
use Rattle.std.specs.Prelude.{OnOk}
use Rattle.fedi_objects.specs.declared.entry.Entry.{Entry}
use Rattle.fedi_objects.specs.declared.entry.Entry.TheVariants.{Hosted}
use Rattle.fedi_outside.specs.MemoryDisks.{contents_of, disk_crashes, disk_shown}
use Rattle.fedi_startup.proofs.OneAnswer.{one_history}
use Rattle.fedi_startup.specs.Making.{IsMade}
use Rattle.fedi_demo.proofs.VisitLemmas.{set_up_is}
use Rattle.fedi_demo.proofs.demonstrating.set_up.Goals as goal

pub returns-in-Ok-open_store-clause-set_up : goal.returns-in-Ok-open_store-clause-set_up
returns-in-Ok-open_store-clause-set_up c =
    let host = c.in_ok-host.host in
    let at = c.clamped.result in
    let disk = c.make_store-made.result.1 in
    let made : IsMade (Hosted host at ∷ []) (disk_shown c.in_ok-disk.disk) (disk_shown disk) (disk_crashes disk) =
    subst (λ r. OnOk r (IsMade (Hosted host at ∷ []) (disk_shown c.in_ok-disk.disk) (disk_shown disk) (disk_crashes disk)))
    c.in-Ok.is c.make_store-made.ensures.made in
    one_history c.in-Ok-open_store.core.history (Hosted host at ∷ []) (contents_of disk.base disk.calls).reads
    c.in-Ok-open_store.ensures.opened.stored made.stored
    ∙ ap (λ (e : Entry). e ∷ []) (set_up_is host at c.in_ok-host.ensures.same c.clamped.ensures)
