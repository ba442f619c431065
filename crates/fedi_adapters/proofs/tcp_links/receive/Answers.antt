use Rattle.std.proofs.Common.{arith}
use Rattle.std.proofs.lemmas.Grind.{common_steps}
use Rattle.fedi_adapters.proofs.Streams.{read_none, read_on}
use Rattle.fedi_adapters.proofs.tcp_links.receive.Goals as goal
use Rattle.fedi_adapters.proofs.tcp_links.receive.Goals.{in-Ok, in-Err}

pub loop-preserved : goal.loop-preserved
loop-preserved g c =
    elim c.match-read.branch [
      | in-Ok w ↦ record {
        room = grind (arith, common_steps);
        within = grind (arith, common_steps);
        read = rw w.filled-is (read_on _ _ _ _ _ _ _ c.loop.invariant.within
            w.in-Ok.ensures.bound.0 c.loop.invariant.read w.in-Ok.ensures.bytes.0);
      }
      | in-Err w ↦ record {
        room = grind (arith, common_steps);
        within = grind (arith, common_steps);
        read = rw w.filled-is (read_none _ _ _ _ _ _ _ c.loop.invariant.within
            c.loop.invariant.read w.in-Err.ensures.bytes);
      }
    ]
