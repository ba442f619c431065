use Rattle.std.proofs.Common.{◌≤◌, ◌+◌, length, []}
use Rattle.fedi_script.specs.Lines.{lines_of}
use Rattle.fedi_servers.specs.Founding.{nothing}
use Rattle.fedi_servers.specs.Machines.{IsInOrder, founding_of}
use Rattle.fedi_play.specs.Playing.{Leads, SettingUp}
use Rattle.fedi_play.proofs.playing.set_up.Given as goal

-- what is played from here is played from the beginning; each line has set up at most one member
-- and one pair
abbrev pub invariant-lines : goal.invariant-lines
invariant-lines l = record {
  order : IsInOrder l.servers;
  leads : Leads (SettingUp nothing) 1 (lines_of l.fn.script) [] (SettingUp (founding_of l.servers)) l.left.number (lines_of l.left.bytes.now);
  few : l.left.number + length l.left.bytes.now ≤ length l.fn.script + 1;
  members : l.servers.members ≤ l.left.number;
  pairs : l.servers.pairs ≤ l.left.number;
}

abbrev pub decreases-lines : goal.decreases-lines
decreases-lines l = length l.left.bytes.now
