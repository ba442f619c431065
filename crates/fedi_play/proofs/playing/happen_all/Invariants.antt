use Rattle.std.proofs.Common.{◌≡◌, ◌≤◌, ◌+◌, ◌++◌, ℕ, List, length}
use Rattle.fedi_script.specs.Lines.{lines_of}
use Rattle.fedi_servers.specs.Founding.{hosts_of}
use Rattle.fedi_play.specs.Playing.{Leads, Running}
use Rattle.fedi_play.proofs.playing.happen_all.Given as goal

-- what is played from here is played from the beginning, after what is printed so far
abbrev pub invariant-lines : goal.invariant-lines
invariant-lines l = record {
  hosts : l.hosts ≡ hosts_of l.world.world.servers;
  few : l.left.number + length l.left.bytes.now ≤ l.fn.script.number + length l.fn.script.bytes.now;
  played : (printed : List ℕ) × (l.text.items ≡ l.fn.text.items ++ printed)
      × Leads (Running l.fn.world) l.fn.script.number (lines_of l.fn.script.bytes.now) printed (Running l.world) l.left.number (lines_of l.left.bytes.now);
}

abbrev pub decreases-lines : goal.decreases-lines
decreases-lines l = length l.left.bytes.now
