use Rattle.std.proofs.Common.{◌-◌, ◌≡◌, ◌≤◌, ℕ, List, ◌++◌, take, drop}
use Rattle.std.specs.Prelude.{Some}
use Rattle.sha2.specs.Hashers.{Holds256}
use Rattle.fedi_outside.specs.Disks.{Elapses}
use Rattle.fedi_journal.proofs.chains.hash_all.Given as goal

abbrev pub invariant-pieces : goal.invariant-pieces
invariant-pieces g l = record {
  inside : l.done ≤ l.length;
  shown : g.D.Disk.shown l.disk ≡ g.D.Disk.shown l.initial.disk;
  time : Elapses (g.D.Disk.crashes l.initial.disk) (g.D.Disk.crashes l.disk) (g.D.Disk.crashes l.initial.disk).may_leave;
  held : (bytes message : List ℕ) → (g.D.Disk.shown l.initial.disk).reads ≡ Some bytes → Holds256 l.initial.hasher message → Holds256 l.hasher (message ++ take l.done (drop l.at bytes));
}

abbrev pub decreases-pieces : goal.decreases-pieces
decreases-pieces g l = l.length - l.done
