use Rattle.std.proofs.Common.{length, refl}
use Rattle.fedi_program.proofs.CheckLemmas.{tip_before}
use Rattle.fedi_program.proofs.StoreLemmas.{checks, over}
use Rattle.fedi_program.proofs.checking.check.Goals as goal

pub count-line-requires : goal.count-line-requires
count-line-requires g c = record { legal = c.in-Ok.ensures.opened.sound.legal }

pub returns-in-Ok : goal.returns-in-Ok
returns-in-Ok g c =
    let core = c.in-Ok.core in
    let closed = rw c.close_with_tip-disk.ensures.disk at c.close_with_tip-disk.ensures.closed in
    let tip = tip_before (g.D.Disk.shown c.args.disk) (g.D.Disk.shown core.keeper.disk) core.history
    c.close_with_tip-disk.result.0 c.in-Ok.ensures.untouched.reads c.close_with_tip-disk.ensures.tip
    in record {
      checked = rw c.close_with_tip-disk.ensures.disk (checks _ _ _ _ _ _
          (over g.D.Disk g.met.D.Disk.only_now c.args.disk core.keeper.disk core.keeper.disk _ _
          (length core.keeper.gates.items) c.in-Ok.ensures.opened refl c.in-Ok.ensures.untouched
          c.in-Ok.ensures.leaves closed) c.count-line.ensures.crashes (
            c.close_with_tip-disk.result.0,
            tip,
            c.print_count.ensures core.history c.count-line.ensures.counted,
          ));
    }
