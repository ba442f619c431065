use Rattle.std.proofs.Common.{◌≤◌, ◌-◌}
use Rattle.fedi_http.specs.Heads.{IsLookedAt, IsSettled}
use Rattle.fedi_http.proofs.heads.Search.look.Given as goal

abbrev pub invariant-lines : goal.invariant-lines
invariant-lines l = record {
  known : IsLookedAt l.bytes l.self.looked l.self.start;
  within : l.self.looked ≤ l.upto;
  low : l.self.start ≤ l.self.looked;
  settled : IsSettled l.bytes l.self.looked l.upto l.self.start;
}

abbrev pub decreases-lines : goal.decreases-lines
decreases-lines l = l.upto - l.self.looked
