use Rattle.std.proofs.Common.{◌≡◌, ◌++◌, take}
use Rattle.fedi_play.specs.Playing.{entries_lines}
use Rattle.fedi_play.proofs.playing.put_all_entries.Given as goal

abbrev pub invariant-servers : goal.invariant-servers
invariant-servers l =
    l.text.items ≡ l.fn.text.items ++ entries_lines (take l.index l.world.world.servers)
