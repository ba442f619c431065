use Rattle.std.proofs.Common.{◌++◌, take, drop, ◌∙◌, ap, subst, arith}
use Rattle.sha2.specs.Hashers.{Holds256}
use Rattle.fedi_outside.specs.Disks.{DiskState}
use Rattle.fedi_outside.proofs.Untouched.{elapses_on}
use Rattle.fedi_journal.proofs.ChainSteps.{piece_more}
use Rattle.fedi_journal.proofs.chains.hash_all.Goals as goal

pub pieces-preserved : goal.pieces-preserved
pieces-preserved g c =
    let done = c.pieces.done in
    let count = c.min-count.result in
    record {
      inside = omega (arith, c.min-count.ensures, c.pieces.invariant.inside, c.pieces-test.true);
      shown = c.in_ok-hash_piece.ensures.shown ∙ c.pieces.invariant.shown;
      time = elapses_on (g.D.Disk.crashes c.args.disk.now) (g.D.Disk.crashes c.pieces.disk) (g.D.Disk.crashes c.hash_piece.new.disk) c.pieces.invariant.time c.hash_piece.ensures.time;
      held = λ bytes message is holds. subst (Holds256 c.hash_piece.new.hasher) (piece_more bytes message c.args.at done count)
          (c.in_ok-hash_piece.ensures.held bytes (message ++ take done (drop c.args.at bytes)) (ap (λ (d : DiskState). d.reads) c.pieces.invariant.shown ∙ is) (c.pieces.invariant.held bytes message is holds));
    }
