use Rattle.std.proofs.Common.{ap, subst}
use Rattle.fedi_worlds.specs.Promises.{HaveArrived}
use Rattle.fedi_worlds.proofs.Locals.{arrivals}
use Rattle.fedi_world.proofs.world.World.show_arrivals.Goals as goal

pub returns : goal.returns
returns g c =
    let r = c.self.invariant.reached in
    subst (λ s. HaveArrived s.world) c.self.view_is (arrivals r.first _ r.events r.start r.runs)
