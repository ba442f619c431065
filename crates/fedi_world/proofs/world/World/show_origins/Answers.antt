use Rattle.std.proofs.Common.{ap, subst}
use Rattle.fedi_worlds.specs.Promises.{HaveOrigins}
use Rattle.fedi_worlds.proofs.Locals.{origins}
use Rattle.fedi_world.proofs.world.World.show_origins.Goals as goal

pub returns : goal.returns
returns g c =
    let r = c.self.invariant.reached in
    subst (λ s. HaveOrigins s.world) c.self.view_is (origins r.first _ r.events r.start r.runs)
