use Rattle.std.proofs.Common.{sym}
use Rattle.fedi_world.specs.Happenings.{limits}
use Rattle.fedi_world.proofs.Waiting.{happens_waited, whole_waited}
use Rattle.fedi_world.proofs.world.World.wait.Goals as goal

pub invariant_of-self : goal.invariant_of-self
invariant_of-self g c =
    whole_waited c.self.inside.moment c.clamped-self-inside.result c.args.seconds c.self.inside.seats.items c.self.inside.requests.items c.self.inside.replies.items c.self.inside.attempts.items
    (rw (sym c.seconds.ensures.value) c.seconds.ensures.bound) (rw (sym c.seconds.ensures.value, sym c.from.ensures) c.clamped-self-inside.ensures) c.self.invariant

pub returns : goal.returns
returns g c =
    happens_waited (limits g.P.Keeper.growth g.P.Keeper.room) g.P.Keeper.shown c.self.inside.moment c.clamped-self-inside.result c.args.seconds c.self.inside.seats.items
    c.self.inside.requests.items c.self.inside.replies.items c.self.inside.attempts.items c.args.self.now c.self.view_is
    (rw (sym c.seconds.ensures.value, sym c.from.ensures) c.clamped-self-inside.ensures) c.self.invariant
