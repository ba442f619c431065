use Rattle.std.proofs.Common.{length, refl}
use Rattle.fedi_program.proofs.StoreLemmas.{exports, over}
use Rattle.fedi_program.proofs.exporting.export.Goals as goal

pub print_table-status-requires : goal.print_table-status-requires
print_table-status-requires g c = record { legal = c.in-Ok.ensures.opened.sound.legal }

pub returns-in-Ok : goal.returns-in-Ok
returns-in-Ok g c =
    let core = c.in-Ok.core in
    let closed = rw c.close_store.ensures.disk at c.close_store.ensures.closed in
    record {
      exported = rw c.close_store.ensures.disk (exports _ _ _ c.args.table _ _ _
          (over g.D.Disk g.met.D.Disk.only_now c.args.disk core.keeper.disk core.keeper.disk _ _
          (length core.keeper.gates.items) c.in-Ok.ensures.opened refl c.in-Ok.ensures.untouched
          c.in-Ok.ensures.leaves closed) c.print_table-status.ensures.crashes
          c.print_table-status.ensures.printed);
    }
