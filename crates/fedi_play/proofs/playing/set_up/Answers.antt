use Rattle.std.proofs.Common.{◌∙◌, ◌+◌, ◌<◌, ◌≤◌, arith, length, sym}
use Rattle.fedi_script.specs.Lines.{instruction_of, lines_of}
use Rattle.fedi_servers.specs.Machines.{founding_of}
use Rattle.fedi_play.proofs.Leading.{adds_few, sets_on}
use Rattle.fedi_play.proofs.playing.set_up.Goals as goal

pub lines-preserved : goal.lines-preserved
lines-preserved c =
    let u = founding_of c.lines.servers in
    let v = founding_of c.add.new.self in
    let adds = rw c.if-not-branch.false at c.in_ok-add.ensures.added in
    let few = adds_few u v (instruction_of c.in-Some.line) adds in
    let most : c.lines.left.number + length c.lines.left.bytes.now ≤ length c.args.script.now + 1 = c.lines.invariant.few in
    let less : length c.next_line.result.1.now < length c.lines.left.bytes.now = c.next_line.ensures.less in
    let members : c.lines.servers.members ≤ c.lines.left.number = c.lines.invariant.members in
    let pairs : c.lines.servers.pairs ≤ c.lines.left.number = c.lines.invariant.pairs in
    let more_members : c.add.new.self.members ≤ c.lines.servers.members + 1 = few.0 in
    let more_pairs : c.add.new.self.pairs ≤ c.lines.servers.pairs + 1 = few.1 in
    record {
      order = c.in_ok-add.ensures.order;
      leads = sets_on u v c.lines.left.number (lines_of c.args.script.now) (lines_of c.lines.left.bytes.now) (lines_of c.next_line.result.1.now)
          c.next_line.result.0.now (instruction_of c.in-Some.line) c.next_line.ensures.line c.in-Some.ensures
          (sym c.sets_up.ensures ∙ c.if-not-sets_up.false) adds c.lines.invariant.leads;
      few = omega (arith, most, less);
      members = omega (arith, members, more_members);
      pairs = omega (arith, pairs, more_pairs);
    }
