use Rattle.std.proofs.Common.{◌<◌, ◌∙◌, ap, length, rules, sym}
use Rattle.fedi_log.specs.Log.{given}
use Rattle.fedi_logged.specs.Attempts.{told_by}
use Rattle.fedi_hall.proofs.Ending.{ends_serving, serves_all}
use Rattle.fedi_hall.proofs.Seating.{idle_after, seated, waiting_after}
use Rattle.fedi_hall.proofs.serving.serve_opened.Goals as goal

pub serve_stations-stations-requires-clause-ready : goal.serve_stations-stations-requires-clause-ready
serve_stations-stations-requires-clause-ready g c κs lives =
    seated (λ l. l.log) g.W.Door.out g.W.Door.idle c.in-Ok-new.made.0.lock c.in-Ok-new.made.1.items c.args.benches.items c.seat-stations.result.items
    c.seat-stations.ensures.passes c.seat-stations.ensures.benches c.in-Ok-new.ensures.idle c.requires.waiting

pub close-requires : goal.close-requires
close-requires g c =
    idle_after (λ l. l.log) g.W.Door.out g.W.Door.idle c.in-Ok-new.made.0.lock c.leave-end.new.passes.items c.serve_stations-stations.result.items c.leave-end.ensures.passes c.serve_stations-stations.ensures.ready

pub returns-clause-served : goal.returns-clause-served
returns-clause-served g c =
    let closed = c.in-Ok-close.ensures.closed in
    let some : 0 < length c.args.benches.items = search rules in
    serves_all g.P.Keeper.growth g.P.Keeper.room (g.C.Clock.told c.args.clock.now) g.O.Opened.state g.W.Door.served (told_by g.K.Link.asked g.K.Link.heard g.K.Link.link_faults) g.W.Door.closed g.W.Door.faults
    c.in-Ok-new.made.1.items c.leave-end.new.passes.items c.args.benches.items c.leave-end.new.benches.items c.seat-stations.result.items c.serve_stations-stations.result.items
    c.seat-stations.ensures.passes c.seat-stations.ensures.benches c.leave-end.ensures.passes c.leave-end.ensures.benches c.serve_stations-stations.ensures.same c.serve_stations-stations.ensures.each
    (λ l. l.log) c.in-Ok-new.made.0.lock closed.0 c.in-Ok-new.ensures.new (c.in-Ok-new.ensures.start ∙ ap (λ s. given s.history) (sym c.requires.opened))
    g.O.Opened.crashes _ _ some closed.1 closed.2 closed.3

pub returns-clause-ends : goal.returns-clause-ends
returns-clause-ends g c =
    let some : 0 < length c.args.benches.items = search rules in
    let ends = ends_serving g.P.Keeper.growth g.P.Keeper.room (g.C.Clock.told c.args.clock.now) g.O.Opened.state g.W.Door.served (told_by g.K.Link.asked g.K.Link.heard g.K.Link.link_faults) g.W.Door.closed g.W.Door.faults
    c.in-Ok-new.made.1.items c.leave-end.new.passes.items c.args.benches.items c.leave-end.new.benches.items c.seat-stations.result.items c.serve_stations-stations.result.items
    c.seat-stations.ensures.passes c.seat-stations.ensures.benches c.leave-end.ensures.passes c.leave-end.ensures.benches c.serve_stations-stations.ensures.same c.serve_stations-stations.ensures.each
    c.leave-end.result some c.leave-end.ensures.ends in
    rw c.from.ensures ends

pub returns-clause-waiting : goal.returns-clause-waiting
returns-clause-waiting g c =
    waiting_after (λ l. l.log) g.W.Door.out g.W.Door.idle c.in-Ok-new.made.0.lock c.leave-end.new.benches.items c.serve_stations-stations.result.items c.leave-end.ensures.benches
    c.serve_stations-stations.ensures.ready

pub returns-in-Err-clause-served : goal.returns-in-Err-clause-served
returns-in-Err-clause-served g c = c.unserved-in-Err.ensures.served (g.C.Clock.told c.args.clock.now)

pub returns-in-Err-clause-waiting : goal.returns-in-Err-clause-waiting
returns-in-Err-clause-waiting g c = rw c.unserved-in-Err.ensures.benches c.requires.waiting
