use Rattle.std.proofs.Common.{refl, sym, subst, length}
use Rattle.fedi_journal.specs.ChainLaws.{chained_ok}
use Rattle.fedi_outside.proofs.ImageSteps.{told_count}
use Rattle.fedi_journal.specs.Chains.{chained}
use Rattle.fedi_log.specs.Keeping.{state_of}
use Rattle.fedi_outside.proofs.Untouched.{untouched_then}
use Rattle.fedi_outside.specs.Disks.{IsUntouched}
use Rattle.fedi_outside.specs.Keepers.{KeeperState}
use Rattle.fedi_startup.specs.Stores.{ComesBack, IsOpened}
use Rattle.fedi_startup.specs.declared.faults.StoreFault.{StoreFault}
use Rattle.fedi_startup.proofs.OpeningSteps.{is_opened, leaves_found, not_found, not_read}
use Rattle.fedi_startup.proofs.Told.{faults_here}
use Rattle.fedi_startup.proofs.opening.open_store.Goals as goal

pub returns-in-Err-clause-refused : goal.returns-in-Err-clause-refused
returns-in-Err-clause-refused g c =
    let start = g.D.Disk.shown c.args.disk in
    let after = g.D.Disk.shown c.in-Err.disk in
    subst (λ (fault : StoreFault). ComesBack fault start after) (sym c.into.ensures)
    (not_found c.in-Err.fault start after c.in-Err.ensures.damaged c.in-Err.ensures.store c.in-Err.ensures.older c.in-Err.ensures.memory c.in-Err.ensures.faults)

pub returns-in-Ok-open_core-clause-opened : goal.returns-in-Ok-open_core-clause-opened
returns-in-Ok-open_core-clause-opened g c =
    let journal = c.in-Ok.journal in
    let core = c.in-Ok-open_core.core in
    let start = g.D.Disk.shown c.args.disk in
    let found = g.D.Disk.shown journal.disk in
    subst (λ (k : KeeperState). IsOpened start (state_of core.history k)) (sym c.in-Ok-open_core.ensures.shown)
    (is_opened start found _ core.history (length journal.gates.items) c.in-Ok.ensures.found c.in-Ok.ensures.same.reads refl
    (told_count chained chained_ok (length journal.gates.items) found) c.in-Ok-open_core.ensures.opened
    c.in-Ok.ensures.settled c.in-Ok.ensures.faults refl c.in-Ok-open_core.ensures.some)

pub returns-in-Ok-open_core-clause-leaves : goal.returns-in-Ok-open_core-clause-leaves
returns-in-Ok-open_core-clause-leaves g c =
    let core = c.in-Ok-open_core.core in
    let j = core.keeper in
    leaves_found (g.D.Disk.shown c.args.disk) (g.D.Disk.shown j.disk) (g.D.Disk.crashes j.disk) j.end j.gates.items _ core.history
    (returns-in-Ok-open_core-clause-opened g c) refl j.known

pub returns-in-Ok-open_core-clause-untouched : goal.returns-in-Ok-open_core-clause-untouched
returns-in-Ok-open_core-clause-untouched g c =
    let disk = c.args.disk in
    let journal = c.in-Ok.journal in
    let later = c.in-Ok-open_core.core.keeper.disk in
    untouched_then (g.D.Disk.shown disk) (g.D.Disk.shown journal.disk) (g.D.Disk.shown later)
    (g.D.Disk.crashes disk) (g.D.Disk.crashes journal.disk) (g.D.Disk.crashes later) c.in-Ok.ensures.same c.in-Ok-open_core.ensures.outside

pub returns-in-Err-open_core-clause-refused : goal.returns-in-Err-open_core-clause-refused
returns-in-Err-open_core-clause-refused g c =
    let journal = c.in-Ok.journal in
    let start = g.D.Disk.shown c.args.disk in
    let found = g.D.Disk.shown journal.disk in
    let after = g.D.Disk.shown c.into_disk.result in
    let stop = c.in-Err-open_core.ensures.stopped in
    subst (λ (fault : StoreFault). ComesBack fault start after) (sym c.into-in-Err-open_core.ensures)
    (not_read c.in-Err-open_core.fault start found after _ _ stop.0 c.in-Ok.ensures.found c.in-Ok.ensures.faults refl
    (told_count chained chained_ok (length journal.gates.items) found) stop.1 c.in-Err-open_core.ensures.shown
    (faults_here g.D.Disk.shown _ _ c.into_disk.ensures.disk))

pub returns-in-Err-open_core-clause-untouched : goal.returns-in-Err-open_core-clause-untouched
returns-in-Err-open_core-clause-untouched g c =
    let disk = c.args.disk in
    let journal = c.in-Ok.journal in
    let later = c.in-Err-open_core.journal.disk in
    subst (λ d. IsUntouched (g.D.Disk.shown disk) (g.D.Disk.shown d) (g.D.Disk.crashes disk) (g.D.Disk.crashes d)) (sym c.into_disk.ensures.disk)
    (untouched_then (g.D.Disk.shown disk) (g.D.Disk.shown journal.disk) (g.D.Disk.shown later)
    (g.D.Disk.crashes disk) (g.D.Disk.crashes journal.disk) (g.D.Disk.crashes later) c.in-Ok.ensures.same c.in-Err-open_core.ensures.outside)
