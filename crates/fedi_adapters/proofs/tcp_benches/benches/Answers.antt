use Rattle.std.proofs.Common.{◌≡◌, ap, arith}
use Rattle.std.proofs.lemmas.Grind.{common_steps}
use Rattle.fedi_adapters.proofs.Roles.{first_roles-more, waiting-more}
use Rattle.fedi_adapters.specs.Benches.{role_at}
use Rattle.fedi_adapters.specs.Untold.{untold_if}
use Rattle.fedi_adapters.proofs.tcp_benches.benches.Goals as goal

pub loop-place-preserved : goal.loop-place-preserved
loop-place-preserved g c =
    let next : c.new.result.role ≡ role_at c.args.size c.loop-place.place = cc in
    let pushed = c.in_ok-push.ensures.items in
    record {
      count = grind (arith, common_steps);
      roles = first_roles-more _ c.args.size c.loop-place.place _ _ _ pushed
          c.loop-place.invariant.roles next;
      waiting = waiting-more c.loop-place.benches.items _ _ pushed (λ bench. bench.door.is_out)
          (λ bench. bench.door.is_idle) c.loop-place.invariant.waiting
          (ap untold_if c.new.ensures.out) c.new.ensures.idle;
    }
