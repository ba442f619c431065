use Rattle.std.proofs.Common.{◌≡◌, IfSome}
use Rattle.fedi_logged.specs.Endings.{faults_on, output_by, scene_on}
use Rattle.fedi_logged.specs.Turning.{setting_at}
use Rattle.fedi_logged.proofs.Conversing.{Stands}
use Rattle.fedi_logged.proofs.sessions.session.Given as goal

abbrev pub invariant-loop-served : goal.invariant-loop-served
invariant-loop-served g l = record {
  ready : g.T.Turns.ready l.turns;
  same : g.T.Turns.same l.fn.turns l.turns;
  channel : g.H.Channel.same l.fn.channel l.channel;
  stands : IfSome (g.H.Channel.left l.fn.channel) (Stands (setting_at (g.T.Turns.by l.fn.turns) (g.C.Clock.told l.clock) g.T.Turns.base) (g.T.Turns.seen l.fn.turns)
      (output_by g.H.Channel.sent g.H.Channel.write_faults l.fn.channel) (scene_on g.H.Channel.left g.H.Channel.sent g.H.Channel.write_faults l.channel) (g.T.Turns.seen l.turns) l.buffer.pending l.served);
  counted : faults_on g.H.Channel.read_faults g.H.Channel.write_faults l.channel ≡ faults_on g.H.Channel.read_faults g.H.Channel.write_faults l.fn.channel;
}
