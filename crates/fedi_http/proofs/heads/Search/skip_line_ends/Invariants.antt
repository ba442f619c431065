use Rattle.std.proofs.Common.{◌≤◌, ◌-◌}
use Rattle.fedi_http.specs.Heads.{IsLookedAt}
use Rattle.fedi_http.proofs.heads.Search.skip_line_ends.Given as goal

abbrev pub invariant-ends : goal.invariant-ends
invariant-ends l = record {
  known : IsLookedAt l.bytes l.self.looked l.self.start;
  within : l.self.looked ≤ l.upto;
}

abbrev pub decreases-ends : goal.decreases-ends
decreases-ends l = l.upto - l.self.looked
