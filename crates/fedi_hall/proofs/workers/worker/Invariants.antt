use Rattle.std.proofs.Common.{◌≡◌, None, false}
use Rattle.fedi_logged.specs.Attempts.{told_by}
use Rattle.fedi_logged.specs.Turning.{setting_at}
use Rattle.fedi_hall.specs.Works.{HasWorked}
use Rattle.fedi_hall.proofs.workers.worker.Given as goal

abbrev pub invariant-loop : goal.invariant-loop
invariant-loop g l =
    (goal.iterator-loop g).can_next l.iterator' × (goal.iterator-loop g).is_finite l.iterator'
    × g.T.Turns.ready l.turns
    × g.T.Turns.same l.fn.turns l.turns
    × (g.W.Door.out l.bench.door ≡ None)
    × (g.W.Door.idle l.bench.door ≡ false)
    × (g.W.Door.faults l.bench.door ≡ g.W.Door.faults l.fn.bench.door)
    × HasWorked (setting_at (g.T.Turns.by l.fn.turns) (g.C.Clock.told l.clock) g.T.Turns.base) (g.T.Turns.seen l.fn.turns) (g.T.Turns.seen l.turns)
    (g.W.Door.served l.fn.bench.door) (g.W.Door.served l.bench.door)
    (told_by g.K.Link.asked g.K.Link.heard g.K.Link.link_faults l.fn.bench.link) (told_by g.K.Link.asked g.K.Link.heard g.K.Link.link_faults l.bench.link)
