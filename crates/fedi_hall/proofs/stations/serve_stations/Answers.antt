use mir.Syntax.{named}
use denote.Param.{param}
use Rattle.fedi_hall.proofs.Sent.{shared_sync, turns_sync}
use Rattle.fedi_hall.proofs.stations.serve_stations.Goals as goal
use Rattle.fedi_hall.proofs.stations.serve_stations.Lts as Lts

pub for_each_mut-requires-sync-F : goal.for_each_mut-requires-sync-F
for_each_mut-requires-sync-F g c κs within =
    let bounds = c.type_bounds in
    record {
      shared = (shared_sync (Lts.name-11 g.row.R g.row.S g.row.P g.row.O g.row.W g.row.K g.row.C g.row.W-L g.R.laws g.S.laws g.P.laws g.O.laws g.W.laws g.K.laws g.C.laws g.W.L.laws g.R.Threads g.R.Threads-dict g.R.Wait g.R.Wait-dict g.S.Shelf g.S.Shelf-dict g.P.Keeper g.P.Keeper-dict g.O.Opened g.O.Opened-dict g.W.Door g.W.Door-dict g.W.L.Line g.W.L.Line-dict g.W.L.Source g.W.L.Source-dict g.W.L.Sink g.W.L.Sink-dict g.K.Link g.K.Link-dict g.C.Clock g.C.Clock-dict g.S.Destruct-dict g.P.Destruct-dict g.W.Destruct-dict g.K.Destruct-dict g.W.L.Destruct-dict)
          (param 0 g.row.R) _ (param 6 g.row.C)
          (record { mir = named 6; lft = κs.1.1.1.1.1.1.0 }) (record { mir = named 7; lft = κs.1.1.1.1.1.1.1.0 }) (record { mir = named 8; lft = κs.1.1.1.1.1.1.1.1.0 }) (record { mir = named 9; lft = κs.1.1.1.1.1.1.1.1.1.0 }) (record { mir = named 10; lft = κs.1.1.1.1.1.1.1.1.1.1.0 })
          bounds.sync-R
          (turns_sync (param 1 g.row.S) (param 2 g.row.P) (param 3 g.row.O) g.S.Shelf g.P.Keeper g.O.Opened bounds.send-S bounds.send-P bounds.send-O)
          bounds.sync-C).shared;
    }
