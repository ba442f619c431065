use Rattle.std.proofs.Common.{◌+◌, ◌++◌, ◌<◌, ◌≤◌, arith, length}
use Rattle.fedi_script.specs.Lines.{instruction_of, lines_of}
use Rattle.fedi_play.specs.Playing.{Running}
use Rattle.fedi_play.proofs.Leading.{happens_on, more_printed}
use Rattle.fedi_play.proofs.playing.happen_all.Goals as goal

pub lines-preserved : goal.lines-preserved
lines-preserved c =
    let so_far = c.lines.invariant.played in
    let done = rw c.if-not-branch.false at c.in_ok-happen.ensures.happened in
    let most : c.lines.left.number + length c.lines.left.bytes.now ≤ c.args.script.number + length c.args.script.bytes.now = c.lines.invariant.few in
    let less : length c.next_line.result.1.now < length c.lines.left.bytes.now = c.next_line.ensures.less in
    record {
      hosts = c.in_ok-happen.ensures.hosts;
      few = omega (arith, most, less);
      played = (
        so_far.0 ++ done.0,
        more_printed c.args.text.now.items c.lines.text.items c.happen.new.text.items so_far.0 done.0 so_far.1 done.2,
        happens_on (Running c.args.world.now) c.lines.world c.happen.new.world c.args.script.number c.lines.left.number
            (lines_of c.args.script.bytes.now) (lines_of c.lines.left.bytes.now) (lines_of c.next_line.result.1.now)
            c.next_line.result.0.now so_far.0 done.0 (instruction_of c.in-Some.line) c.next_line.ensures.line c.in-Some.ensures done.1 so_far.2,
      );
    }
