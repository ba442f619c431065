use Rattle.std.proofs.Common.{ℕ, ◌≡◌, ◌+◌, ◌<◌, ◌-◌, List, true}
use Rattle.std.specs.Prelude.{Some}
use Rattle.fedi_outside.specs.Disks.{Elapses}
use Rattle.fedi_outside.specs.Known.{are_apart}
use Rattle.fedi_journal.specs.Finding.{IsScanned}
use Rattle.fedi_journal.proofs.finding.scan.Given as goal

abbrev pub invariant-records : goal.invariant-records
invariant-records g l = record {
  inside : l.gate < l.size;
  apart : are_apart (9 + g.S.Seal.format.width) l.gates.items l.gate ≡ true;
  shown : g.D.Disk.shown l.disk ≡ g.D.Disk.shown l.initial.disk;
  time : Elapses (g.D.Disk.crashes l.initial.disk) (g.D.Disk.crashes l.disk) (g.D.Disk.crashes l.initial.disk).may_leave;
  scanned : (bytes : List ℕ) → (g.D.Disk.shown l.initial.disk).reads ≡ Some bytes → IsScanned g.S.Seal.format g.S.Seal.after l.gates.items l.gate l.seal bytes;
}

abbrev pub decreases-records : goal.decreases-records
decreases-records g l = l.size - l.gate
