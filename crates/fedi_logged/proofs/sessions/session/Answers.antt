use Rattle.std.proofs.Common.{◌∙◌, None, Some, refl}
use Rattle.fedi_logged.specs.Endings.{output_by, scene_on}
use Rattle.fedi_logged.proofs.Conversing.{caused_on, ends_told, on_told, stands_first, steps_by}
use Rattle.fedi_logged.proofs.sessions.session.Goals as goal

pub loop-served-init : goal.loop-served-init
loop-served-init g c = record {
  ready = c.requires.ready;
  same = g.T.Turns.same_none c.args.turns.now;
  channel = g.met.H.Channel.same_none c.args.channel.now;
  stands = rw c.new-buffer.ensures (stands_first _ (g.T.Turns.seen c.args.turns.now) (scene_on g.H.Channel.left g.H.Channel.sent g.H.Channel.write_faults c.args.channel.now));
  counted = refl;
}

pub loop-served-preserved : goal.loop-served-preserved
loop-served-preserved g c =
    let held = c.loop-served.invariant in
    record {
      ready = c.exchange.ensures.ready;
      same = g.T.Turns.same_both _ _ _ held.same c.exchange.ensures.same;
      channel = g.met.H.Channel.same_both _ _ _ held.channel c.exchange.ensures.channel;
      stands = on_told _ (g.T.Turns.seen c.args.turns.now) (output_by g.H.Channel.sent g.H.Channel.write_faults c.args.channel.now) (scene_on g.H.Channel.left g.H.Channel.sent g.H.Channel.write_faults c.loop-served.channel) _
          (g.T.Turns.seen c.loop-served.turns) _ c.loop-served.buffer.pending c.exchange.new.buffer.pending c.loop-served.served (g.H.Channel.left c.args.channel.now) held.stands
          (steps_by _ _ _ _ _ c.loop-served.served _ c.loop-served.buffer.pending _ c.exchange.new.buffer.pending _ None (g.T.Turns.same_by _ _ held.same) c.in_default.ensures.steps);
      counted = c.in_default.ensures.counted ∙ held.counted;
    }

pub returns-in-Some-clause-serves : goal.returns-in-Some-clause-serves
returns-in-Some-clause-serves g c =
    let held = c.loop-served.invariant in
    ends_told _ (g.T.Turns.seen c.args.turns.now) (output_by g.H.Channel.sent g.H.Channel.write_faults c.args.channel.now) (scene_on g.H.Channel.left g.H.Channel.sent g.H.Channel.write_faults c.loop-served.channel) _
    (g.T.Turns.seen c.loop-served.turns) _ c.loop-served.buffer.pending c.exchange.new.buffer.pending c.loop-served.served c.in-Some.end (g.H.Channel.left c.args.channel.now) held.stands
    (steps_by _ _ _ _ _ c.loop-served.served _ c.loop-served.buffer.pending _ c.exchange.new.buffer.pending _ (Some c.in-Some.end) (g.T.Turns.same_by _ _ held.same) c.in-Some.ensures.steps)

pub returns-in-Some-clause-causes : goal.returns-in-Some-clause-causes
returns-in-Some-clause-causes g c = caused_on _ _ _ c.in-Some.end c.loop-served.invariant.counted c.in-Some.ensures.counted

pub returns-in-Some-clause-same : goal.returns-in-Some-clause-same
returns-in-Some-clause-same g c = g.T.Turns.same_both _ _ _ c.loop-served.invariant.same c.exchange.ensures.same

pub returns-in-Some-clause-channel : goal.returns-in-Some-clause-channel
returns-in-Some-clause-channel g c = g.met.H.Channel.same_both _ _ _ c.loop-served.invariant.channel c.exchange.ensures.channel
